use Rattle.std.proofs.Common.{◌≡◌, [], map, refl, sym, ◌∙◌, subst}
use Rattle.tlog_tiles.specs.Layout.{entries_in, IsLayout}
use Rattle.tlog_tiles.proofs.PieceLemmas.{entries_back}
use Rattle.tlog_tiles.proofs.log_files.LogFiles.from_rows.Goals as goal

pub returns : goal.returns
returns g c =
    (λ i. entries_in 0 (c.in_ok-text.ensures.ends i) (c.in_ok-text.ensures.text i)) ∙
    entries_back 0 [] (map (λ e. e.now) c.args.entries.now) refl

pub invariant_of-result : goal.invariant_of-result
invariant_of-result g c =
    let entries = map (λ e. e.now) c.args.entries.now in
    let back : entries_in 0 c.in_ok-text.ends.items c.in_ok-text.text.items ≡ entries =
    (λ i. entries_in 0 (c.in_ok-text.ensures.ends i) (c.in_ok-text.ensures.text i)) ∙
    entries_back 0 [] entries refl in
    subst (λ es. IsLayout g.H.TreeHash.digest es c.args.root (map (λ row. row.items) c.args.rows.items)
    c.in_ok-text.text.items c.in_ok-text.ends.items) (sym back)
    (record {
      root_is = c.requires.root;
      rows_are = c.requires.rows;
      text_is = c.in_ok-text.ensures.text;
      ends_are = c.in_ok-text.ensures.ends;
    })
