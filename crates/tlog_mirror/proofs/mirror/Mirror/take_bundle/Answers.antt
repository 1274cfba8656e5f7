use Rattle.std.proofs.Common.{ℕ, List, [], refl, map, subst, ap, ◌∙◌, Err}
use denote.Bor.{Bor}
use Rattle.tlog_tiles.specs.Bundle.{ReadsBundle}
use Rattle.mirror_model.specs.Item.{IsWidth}
use Rattle.mirror_model.specs.declared.items.Item.TheVariants.{Bundle}
use Rattle.tlog_mirror.specs.Adding.{tree_strings}
use Rattle.tlog_mirror.proofs.TakenItems.{bundle_judged, gathered_short, gathered_tagged, takes_added}
use Rattle.tlog_mirror.proofs.TakenItems.{bundle_good, bundle_strings_are}
use Rattle.mirror_model.proofs.Refusing.{bundle_not_short, bundle_not_long}
use Rattle.tlog_mirror.proofs.mirror.Mirror.take_bundle.Goals as goal

pub returns-in-Err-BundleShort-clause-takes : goal.returns-in-Err-BundleShort-clause-takes
returns-in-Err-BundleShort-clause-takes g c = λ keys. (
  bundle_not_short c.args.width c.args.bytes.now
      (subst (λ f. ReadsBundle c.args.width c.args.bytes.now
      (Err f)) c.in-Err-BundleShort.field-0-is c.in-Err-BundleShort.ensures),
  refl,
)

pub returns-in-Err-BundleLong-clause-takes : goal.returns-in-Err-BundleLong-clause-takes
returns-in-Err-BundleLong-clause-takes g c = λ keys. (
  bundle_not_long c.args.width c.args.bytes.now
      (subst (λ f. ReadsBundle c.args.width c.args.bytes.now
      (Err f)) c.in-Err-BundleLong.field-0-is c.in-Err-BundleLong.ensures),
  refl,
)

pub add_tree-requires-clause-tagged : goal.add_tree-requires-clause-tagged
add_tree-requires-clause-tagged g c =
    let d = g.H.TreeHash.digest in
    let w : IsWidth c.args.width = record { some = c.requires.some; most = c.requires.most } in
    let entries = map (λ e. e.now) c.in-Ok.entries.items in
    gathered_tagged d (Bundle c.args.width c.args.bytes.now) g.met.H.TreeHash.digest_length [] []
    (bundle_good c.args.width c.args.bytes.now w entries c.in-Ok.ensures) _
    (ap (λ (es : List (Bor (List ℕ))). tree_strings d (map (λ e. e.now) es)) c.as_slice.ensures.value ∙
    bundle_strings_are d c.args.width c.args.bytes.now entries c.in-Ok.ensures)

pub add_tree-requires-clause-short : goal.add_tree-requires-clause-short
add_tree-requires-clause-short g c =
    let d = g.H.TreeHash.digest in
    let w : IsWidth c.args.width = record { some = c.requires.some; most = c.requires.most } in
    let entries = map (λ e. e.now) c.in-Ok.entries.items in
    gathered_short d (Bundle c.args.width c.args.bytes.now) g.met.H.TreeHash.digest_length [] []
    (bundle_good c.args.width c.args.bytes.now w entries c.in-Ok.ensures) _
    (ap (λ (es : List (Bor (List ℕ))). tree_strings d (map (λ e. e.now) es)) c.as_slice.ensures.value ∙
    bundle_strings_are d c.args.width c.args.bytes.now entries c.in-Ok.ensures)

pub returns-clause-takes : goal.returns-clause-takes
returns-clause-takes g c = λ keys.
    let d = g.H.TreeHash.digest in
    let w : IsWidth c.args.width = record { some = c.requires.some; most = c.requires.most } in
    let entries = map (λ e. e.now) c.in-Ok.entries.items in
    takes_added d (Bundle c.args.width c.args.bytes.now) keys c.args.self.now.view
    (bundle_good c.args.width c.args.bytes.now w entries c.in-Ok.ensures) _
    (ap (λ (es : List (Bor (List ℕ))). tree_strings d (map (λ e. e.now) es)) c.as_slice.ensures.value ∙
    bundle_strings_are d c.args.width c.args.bytes.now entries c.in-Ok.ensures) refl c.add_tree.result
    c.take_answer.result c.take_answer.ensures c.add_tree.new.self.view c.add_tree.ensures.adds

pub returns-clause-judged : goal.returns-clause-judged
returns-clause-judged g c =
    let w : IsWidth c.args.width = record { some = c.requires.some; most = c.requires.most } in
    bundle_judged c.args.width c.args.bytes.now
    (bundle_good c.args.width c.args.bytes.now w
    (map (λ e. e.now) c.in-Ok.entries.items) c.in-Ok.ensures) c.add_tree.result c.take_answer.result c.take_answer.ensures
