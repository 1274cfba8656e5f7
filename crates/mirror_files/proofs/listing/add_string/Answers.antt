use Rattle.std.proofs.Common.{◌≡◌, ℕ, List, [], ◌∷◌, ◌++◌, map, ap, sym, subst, ◌∙◌}
use Rattle.std.proofs.lemmas.List.{map_push}
use Rattle.std.proofs.lemmas.List.Elements.{All-push, All-same}
use Rattle.node_store.specs.Strings.{string_of}
use Rattle.mirror_files.specs.Listing.{HoldsPart}
use Rattle.mirror_files.specs.Putting.{pair_bytes, IsKeyed}
use Rattle.mirror_files.proofs.Gathered.{lent_bytes, part_more, part_pass}
use Rattle.mirror_files.proofs.listing.add_string.Goals as goal

pub returns-in_ok-push-in-Leaf : goal.returns-in_ok-push-in-Leaf
returns-in_ok-push-in-Leaf c = λ strings left so_far.
    let held = c.args.held.now in
    let is = ap (λ s. string_of s ∷ left) c.in-Leaf.is in
    let items : map lent_bytes c.push.new.self.items ≡ map lent_bytes held.entries.items ++ c.in-Leaf.entry.now ∷ [] =
    ap (map lent_bytes) c.in_ok-push-in-Leaf.ensures.items ∙ map_push lent_bytes held.entries.items c.in-Leaf.entry in
    record {
      pairs_are = part_pass 1 strings (map pair_bytes held.pairs.items) _ left so_far.pairs_are
          (0 ∷ c.in-Leaf.entry.now) (λ e same. cc same) is;
      keyed = so_far.keyed;
      entries_are = subst (λ (xs : List (List ℕ)). HoldsPart 0 strings xs left) (sym items)
          (part_more 0 strings (map lent_bytes held.entries.items) _ left so_far.entries_are c.in-Leaf.entry.now is);
    }

pub returns-in_ok-push-in-Pair : goal.returns-in_ok-push-in-Pair
returns-in_ok-push-in-Pair c = λ strings left so_far.
    let held = c.args.held.now in
    let whole = ap (λ s. string_of s ∷ left) c.in-Pair.is in
    let is = whole ∙ ap (λ (w : List ℕ). (1 ∷ w) ∷ left) (sym c.pair_of.ensures.bytes) in
    let items : map pair_bytes c.push-in-Pair.new.self.items
    ≡ map pair_bytes held.pairs.items ++ pair_bytes c.pair_of.result ∷ [] =
    ap (map pair_bytes) c.in_ok-push-in-Pair.ensures.items ∙ map_push pair_bytes held.pairs.items c.pair_of.result in
    record {
      pairs_are = subst (λ (xs : List (List ℕ)). HoldsPart 1 strings xs left) (sym items)
          (part_more 1 strings (map pair_bytes held.pairs.items) _ left so_far.pairs_are (pair_bytes c.pair_of.result)
          is);
      keyed = All-same IsKeyed _ _ c.in_ok-push-in-Pair.ensures.items
          (All-push IsKeyed held.pairs.items c.pair_of.result so_far.keyed c.pair_of.ensures.keyed);
      entries_are = part_pass 0 strings (map lent_bytes held.entries.items) _ left so_far.entries_are
          (1 ∷ c.in-Pair.left.now ++ c.in-Pair.right.now) (λ e same. cc same) whole;
    }
