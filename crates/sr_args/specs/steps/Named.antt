-- The forms of commands that name a key, and perhaps a group and a consumer, and nothing more. No public clause cites
-- this module.

use Rattle.sr_args.specs.declared.commands.named.ConsumerNamed.{ConsumerNamed}
use Rattle.sr_args.specs.declared.commands.named.GroupNamed.{GroupNamed}
use Rattle.sr_args.specs.FormWord.{Word}
use Rattle.sr_args.specs.Form.{Form, end, text, Values}

-- key
abbrev pub key_form : Form
key_form = text end

abbrev pub key_of : Values key_form → Word
key_of (key, nothing_more) = key

-- key group
abbrev pub group_form : Form
group_form = text (text end)

abbrev pub group_of : Values group_form → GroupNamed
group_of (key, (group, nothing_more)) = record { key = key; group = group }

-- key group consumer
abbrev pub consumer_form : Form
consumer_form = text (text (text end))

abbrev pub consumer_of : Values consumer_form → ConsumerNamed
consumer_of (key, (group, (consumer, nothing_more))) = record { key = key; group = group; consumer = consumer }
