use Rattle.std.proofs.Common.{◌≡◌, ◌^◌, ◌<◌, [], ◌∷◌, ◌++◌, length, map, ap, sym, ◌∙◌}
use Rattle.std.proofs.lemmas.List.{map_push}
use Rattle.std.proofs.lemmas.List.Elements.{All-push, All-same}
use Rattle.tlog_tiles.proofs.BundleLemmas.{joined_push}
use Rattle.state_commands.proofs.EntryLists.{bundle_of, first_left, others_left}
use Rattle.state_commands.proofs.entries.entries_of.Goals as goal

pub returns-in_default-clause-reads : goal.returns-in_default-clause-reads
returns-in_default-clause-reads c = λ entries are.
    let left = c.loop-rest.invariant.others (length entries) (bundle_of c.args.bytes.now entries are) in
    let first = first_left left.0 c.loop-rest.rest.now (sym c.is_empty.ensures ∙ c.loop-rest-test.true) left.1 in
    c.in_default.ensures.none first.0 first.1 first.2 first.3

pub loop-rest-preserved : goal.loop-rest-preserved
loop-rest-preserved c =
    let found = c.in-Some.ensures.found in
    let pushed : c.in_ok-from_slice.field-0.items ≡ c.in-Some.entry.now = c.in_ok-from_slice.ensures.items in
    let items : map (λ x. x.items) c.push.new.self.items ≡
    map (λ x. x.items) c.loop-rest.entries.items ++ c.in-Some.entry.now ∷ [] =
    rw (c.in_ok-push.ensures.items, map_push (λ x. x.items) c.loop-rest.entries.items c.in_ok-from_slice.field-0)
    (ap (λ e. map (λ x. x.items) c.loop-rest.entries.items ++ e ∷ []) pushed) in
    record {
      fits = All-same (λ e. length e < 2 ^ 16) _ _ items
          (All-push (λ e. length e < 2 ^ 16)
          (map (λ x. x.items) c.loop-rest.entries.items) c.in-Some.entry.now c.loop-rest.invariant.fits found.0);
      text = rw items (joined_push c.args.bytes.now c.loop-rest.rest.now c.in-Some.after.now c.in-Some.entry.now
          (map (λ x. x.items) c.loop-rest.entries.items) c.loop-rest.invariant.text found.1);
      others = λ k h.
          let left = c.loop-rest.invariant.others k h in
          others_left left.0 c.loop-rest.rest.now c.in-Some.entry.now c.in-Some.after.now
          (sym c.is_empty.ensures ∙ c.loop-rest-test.true) found.0 found.1 left.1;
    }
