use Rattle.std.proofs.Common.{◌≡◌, ℕ, ◌-◌, List, ◌++◌, length, map, All}
use Rattle.mirror_files.specs.Items.{items_text, IsItem}
use Rattle.mirror_files.specs.Stands.{HasItems}
use Rattle.mirror_files.proofs.items.items_at.Given as goal

abbrev pub invariant-loop : goal.invariant-loop
invariant-loop l = record {
  count : length l.items.items ≡ l.counter;
  fits : All (IsItem l.form) (map (λ i. i.now) l.items.items);
  text : l.bytes ≡ items_text l.form (map (λ i. i.now) l.items.items) ++ l.rest;
  others : (items : List (List ℕ)) (rest : List ℕ) → HasItems l.form l.count l.bytes items rest →
      (left : List (List ℕ)) × HasItems l.form (l.count - l.counter) l.rest left rest;
}
