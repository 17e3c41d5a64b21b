-- The parts of a reply in the form in which it is kept. Only private clauses cite this.

use Rattle.std.specs.Prelude.{[], ◌∷◌}
use Rattle.sr_resp.specs.declared.form.Form.{Form}
use Rattle.sr_resp.specs.declared.form.Form.TheVariants as forms
use Rattle.sr_resp.specs.Reply.{ReplyParts, Simple, Error, Int, Bulk, NullBulk, NullArray}

-- one part alone, or those of the array that was written
abbrev pub parts_of_form : Form → ReplyParts
parts_of_form (forms.Simple word) = Simple word ∷ []
parts_of_form (forms.Error code) = Error code ∷ []
parts_of_form (forms.Int n) = Int n ∷ []
parts_of_form (forms.Bulk bytes) = Bulk bytes ∷ []
parts_of_form forms.NullBulk = NullBulk ∷ []
parts_of_form forms.NullArray = NullArray ∷ []
parts_of_form (forms.Array parts) = parts
