-- The seconds to wait that fields name, field by field.
use Rattle.std.proofs.Common.{ℕ, List, [], ◌∷◌, ◌++◌, Option, Some, None}
use Rattle.std.specs.Prelude.{IfNone, IfSome}
use Rattle.std.proofs.lemmas.List.Elements.{All-push}
use Rattle.std.proofs.lemmas.List.Quantifiers.{Any-push}
use Rattle.mirror_client.specs.Reply.{Field}
use Rattle.mirror_client.specs.Waits.{NamesSeconds, NamesWait}
use Rattle.mirror_client.proofs.Lengths.{some_more}

-- what some field names stays
pub named_kept : (fields : List Field) (field : Field) (n : ℕ) → NamesWait fields (Some n) →
    NamesWait (fields ++ field ∷ []) (Some n)
named_kept fields field n h = some_more fields field (λ f. NamesSeconds f n) h

-- where no field names any, one more field decides
pub named_new : (fields : List Field) (field : Field) (named : Option ℕ) → IfSome named (λ n. NamesSeconds field n) →
    IfNone named ((n : ℕ) → NamesSeconds field n → ⊥) → NamesWait fields None → NamesWait (fields ++ field ∷ []) named
named_new fields field (Some n) found none h = Any-push (λ f. NamesSeconds f n) fields field found
named_new fields field None found none h =
    All-push (λ f. (n : ℕ) → NamesSeconds f n → ⊥) fields field h none
