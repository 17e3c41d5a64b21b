-- Where binary search finds consumers. No public clause cites it.

use Rattle.std.specs.Prelude.{◌≡◌, ℕ, List, Some, slice_get}
use Rattle.std.specs.List.{count_by}
use Rattle.sr_bytes.specs.{comes_before}
use Rattle.sr_group.specs.declared.consumer.Consumer.{Consumer}

-- how many consumers come before the name
abbrev pub before : List ℕ → List Consumer → ℕ
before name consumers = count_by (λ consumer. comes_before consumer.name name) consumers

-- the consumer at this place has the name
pub record IsPlace (name : List ℕ) (consumers : List Consumer) (place : ℕ) : Type 0 where
  pub consumer : Consumer
  pub here : slice_get consumers place ≡ Some consumer
  pub same : consumer.name ≡ name
