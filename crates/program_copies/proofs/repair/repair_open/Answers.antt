use Rattle.std.proofs.Common.{◌∙◌, refl}
use Rattle.program_copies.specs.Repairing.{HasNone, HasNote, IsNotOpened}
use Rattle.program_copies.proofs.Repaired.{counted_later}
use Rattle.program_copies.proofs.repair.repair_open.Goals as goal

pub returns-in-Ok-None : goal.returns-in-Ok-None
returns-in-Ok-None g c = record {
  repairs = HasNone (rw c.in-Ok-None.field-0-is at c.in-Ok-None.ensures.opens)
      (record { puts = c.open_own.ensures.same; places_are = refl; count = refl }) refl;
  counted = c.in-Ok-None.ensures.counted;
}

pub returns-in-Err : goal.returns-in-Err
returns-in-Err g c = record {
  repairs = IsNotOpened c.in-Err.fault c.in-Err.ensures.opens
      (record { puts = c.open_own.ensures.same; places_are = refl; count = refl }) refl;
  counted = c.in-Err.ensures.counted;
}

pub returns-in-Ok : goal.returns-in-Ok
returns-in-Ok g c =
    let found = rw c.in-Ok-Some.field-0-is at c.in-Ok-Some.ensures.opens in
    let opened = rw (← c.deref.ensures.value) at found in
    record {
      repairs = HasNote c.deref.result.now opened.0 opened.1
          (record {
            opened = g.D.Shelf.puts c.open_own.new.folders;
            same = c.open_own.ensures.same;
            asks = c.repair_copy.ensures.asks;
            counts = c.repair_copy.ensures.counts;
            keeps = c.repair_copy.ensures.keeps;
            goes_on = c.in-Ok.ensures.goes_on;
            names = c.in-Ok.ensures.names;
            whole = c.in-Ok.ensures.whole;
          });
      counted = c.in-Ok.ensures.counted ∙ c.in-Ok-Some.ensures.counted;
    }

pub returns : goal.returns
returns g c =
    let found = rw c.in-Ok-Some.field-0-is at c.in-Ok-Some.ensures.opens in
    let opened = rw (← c.deref.ensures.value) at found in
    record {
      repairs = HasNote c.deref.result.now opened.0 opened.1
          (record {
            opened = g.D.Shelf.puts c.open_own.new.folders;
            same = c.open_own.ensures.same;
            asks = c.repair_copy.ensures.asks;
            counts = c.repair_copy.ensures.counts;
            keeps = c.repair_copy.ensures.keeps;
            goes_on = c.in-Err-repair_copy.ensures.goes_on;
            names = c.in-Err-repair_copy.ensures.names;
            whole = tt;
          });
      counted = counted_later (g.D.Shelf.failed c.args.folders.now) (g.D.Shelf.failed c.open_own.new.folders)
          (g.D.Shelf.failed c.repair_copy.new.shelf) c.in-Err-repair_copy.fault c.in-Ok-Some.ensures.counted
          c.in-Err-repair_copy.ensures.counted;
    }
