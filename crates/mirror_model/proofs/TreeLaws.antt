-- The laws of specs/TreeLaws.antt, from the lemmas on blocks, edges, fronts and walks.
use Rattle.std.proofs.Common.{subst, ◌≡◌, inl, inr, ◌-◌, ◌*◌, min, length, take, drop, sym, refl, ap, ◌∙◌, arith}
use Rattle.std.proofs.Common.{length-drop}
use Rattle.std.proofs.lemmas.List.{take_min}
use Rattle.std.proofs.lemmas.Bool.{cases_lt}
use Rattle.std.specs.List.{Contains}
use Rattle.tlog_hash.specs.Tree.{tree_of, strings}
use Rattle.tlog_hash.specs.Rows.{part}
use Rattle.mirror_model.specs.Front.{IsPathOf}
use Rattle.mirror_model.specs.TreeLaws.{FrontIsEmpty, FullRowJoinsAreNodes, BundleStringsAreNodes}
use Rattle.mirror_model.specs.TreeLaws.{RoundLeavesSmallNodes, RoundGoesDown}
use Rattle.mirror_model.specs.TreeLaws.{BundleRoundCompletes, MissingIsFront}
use Rattle.mirror_model.proofs.NodeBlocks.{node_inside}
use Rattle.mirror_model.proofs.RowLaws.{full_tile, bundle}
use Rattle.mirror_model.proofs.Fronts.{front_empty, front_node, front_unheld, after_round, after_bundles}
use Rattle.mirror_model.proofs.Walks.{walk_is_front}
use Rattle.mirror_model.proofs.StringSets.{holds_from_held, held_from_holds}
use Rattle.tlog_shape.proofs.Levels.{level_mono}

pub full_row_joins : FullRowJoinsAreNodes
full_row_joins d es level index fits y =
    let law = full_tile d es level index fits y in (
      λ h. let n =
          law.0 h in record {
            node = n.node;
            is =
                n.is;
            start_in = n.inside.start_in;
            end_in = n.inside.upto;
            long = n.long;
            string_is = n.string_is;
          },
      λ h. law.1
          (record {
            node =
                h.node;
            is =
                h.is;
            inside =
                record { start_in = h.start_in; upto = h.end_in; some = (node_inside d es 0 h.node h.is).some };
            long =
                h.long;
            string_is = h.string_is;
          }),
    )

pub bundle_strings : BundleStringsAreNodes
bundle_strings d es index fits y =
    let swap : 256 * index ≡ index * 256 = omega arith in
    let len : length (drop (256 * index) es) ≡ length es - 256 * index = length-drop (256 * index) es in
    let same : part (256 * index) (min 256 (length es - 256 * index)) es ≡ part (index * 256) 256 es =
    ap (λ n. take (min 256 n) (drop (256 * index) es)) (sym len) ∙ take_min 256 (drop (256 * index) es) ∙
    ap (λ n. part n 256 es) swap in
    let law = bundle d es index (omega arith) y in (
      λ h.
          let n = law.0 (subst (λ zs. Contains (strings d zs) y) same h) in
          let whole = node_inside d es 0 n.node n.is in
          record {
            node =
                n.node;
            is =
                n.is;
            start_in =
                omega (arith, n.inside.start_in);
            end_in =
                omega (arith, n.inside.upto, n.inside.start_in, whole.upto, whole.some);
            long =
                omega (arith, whole.some);
            string_is = n.string_is;
          },
      λ h. subst (λ zs. Contains (strings d zs) y) (sym same)
          (law.1 (record {
            node = h.node;
            is =
                h.is;
            inside =
                record {
                  start_in = omega (arith, h.start_in);
                  upto = omega (arith, h.end_in);
                  some = omega (arith, h.long);
                };
            string_is = h.string_is;
          })),
    )

pub round_leaves : RoundLeavesSmallNodes
round_leaves d held after es small r =
    after_round d held after r.grows es small (holds_from_held held _ r.edge)
    (λ path f. holds_from_held after _ (r.taken path f))

pub round_goes_down : RoundGoesDown
round_goes_down d held after es small r top asks level index width f =
    let n = f.node in
    let short =
    round_leaves d held after es small r top asks n (front_node d after (tree_of es) 0 n f.is)
    (front_unheld d after (tree_of es) 0 n f.is) in
    elim (cases_lt level top) [
      | inl lt ↦ lt
      | inr le ↦ absurd (let more = level_mono top level le in omega (arith, short, f.path_is.tile.above, more))
    ]

pub bundles_complete : BundleRoundCompletes
bundles_complete d held after es small r alone =
    held_from_holds after _
    (after_bundles d held after r.grows es small (holds_from_held held _ r.edge)
    (λ path f. holds_from_held after _ (r.taken path f)) alone)

pub missing_is_front : MissingIsFront
missing_is_front d size held es clean path = (
  λ m.
      let k = (walk_is_front d size held es clean m.at m.many).0 m.fails in
      record {
        node =
            k.0;
        is =
            k.1;
        path_is =
            subst (λ n. IsPathOf (length es) n k.0.len path) (sym k.2)
            (subst (λ n. IsPathOf (length es) m.at n path) (sym k.3) m.path_is);
      },
  λ f. record {
    at = f.node.start;
    many =
        f.node.len;
    fails =
        (walk_is_front d size held es clean f.node.start f.node.len).1 (f.node, f.is, refl, refl);
    path_is = f.path_is;
  },
)

pub front_is_empty : FrontIsEmpty
front_is_empty d held es small =
    let law = front_empty d held es small in
    (λ none. held_from_holds held _ (law.0 none), λ all. law.1 (holds_from_held held _ all))
