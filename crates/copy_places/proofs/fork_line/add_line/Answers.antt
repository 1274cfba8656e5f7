use Rattle.std.proofs.Common.{subst, sym}
use Rattle.copy_places.specs.Adding.{IsPlaceOf}
use Rattle.copy_places.specs.Lines.{HasLineOf}
use Rattle.copy_places.specs.Shown.{ShowsEach}
use Rattle.copy_places.proofs.LineLists.{has_insert, kept_insert, kept_itself}
use Rattle.copy_places.proofs.Lines.{adds_at, adds_none}
use Rattle.copy_places.proofs.Shown.{insert_shows}
use Rattle.copy_places.proofs.fork_line.add_line.Goals as goal

pub returns-in_ok-insert-in-Some-clause-has : goal.returns-in_ok-insert-in-Some-clause-has
returns-in_ok-insert-in-Some-clause-has c =
    has_insert c.args.lines.now.items c.insert.new.self.items c.in-Some.at c.args.line c.in_ok-insert-in-Some.ensures.items

pub returns-in_ok-insert-in-Some-clause-adds : goal.returns-in_ok-insert-in-Some-clause-adds
returns-in_ok-insert-in-Some-clause-adds c =
    adds_at c.args.line c.args.lines.now.items c.insert.new.self.items c.in-Some.at
    (subst (λ l. IsPlaceOf c.args.line l c.in-Some.at) c.as_slice.ensures.value c.in-Some.ensures.place)
    c.in_ok-insert-in-Some.ensures.items

pub returns-in_ok-insert-in-Some-clause-shows : goal.returns-in_ok-insert-in-Some-clause-shows
returns-in_ok-insert-in-Some-clause-shows c = λ digest each shown.
    subst (ShowsEach digest) (sym c.in_ok-insert-in-Some.ensures.items)
    (insert_shows digest c.args.lines.now.items c.in-Some.at c.args.line each shown)

pub returns-in_ok-insert-in-Some-clause-kept : goal.returns-in_ok-insert-in-Some-clause-kept
returns-in_ok-insert-in-Some-clause-kept c =
    kept_insert c.args.lines.now.items c.insert.new.self.items c.in-Some.at c.args.line c.in_ok-insert-in-Some.ensures.items

pub returns-in-None-clause-shows : goal.returns-in-None-clause-shows
returns-in-None-clause-shows c = λ digest each shown. each

pub returns-in-None-clause-kept : goal.returns-in-None-clause-kept
returns-in-None-clause-kept c = kept_itself c.args.lines.now.items

pub returns-in-None-clause-has : goal.returns-in-None-clause-has
returns-in-None-clause-has c = subst (λ l. HasLineOf l c.args.line) c.as_slice.ensures.value c.in-None.ensures.there

pub returns-in-None-clause-adds : goal.returns-in-None-clause-adds
returns-in-None-clause-adds c = adds_none c.args.line c.args.lines.now.items
