use Rattle.std.proofs.Common.{◌≡◌, ◌<◌, map}
use Rattle.tlog_tiles.specs.declared.paths.Path.TheVariants.{Checkpoint}
use Rattle.copy_places.specs.AskedOnce.{AsksOnce}
use Rattle.copy_places.specs.Requests.{AsksAny}
use Rattle.copy_places.specs.GatheredFrom.{GathersFrom}
use Rattle.copy_places.proofs.candidates.ask_each_place.Given as goal

abbrev pub invariant-loop-i : goal.invariant-loop-i
invariant-loop-i g l = record {
  asks : AsksAny g.S.Source.may_answer g.S.Source.failed g.S.Source.asked l.initial.places l.places;
  once : AsksOnce g.S.Source.asked (λ k path. (k < l.i) × (path ≡ Checkpoint)) l.initial.places l.places;
  gathers : GathersFrom g.S.Source.may_answer l.origin
      (map (λ k. (goal.Verifier-dyn g (k.vtable, k.value)).key k.value) l.keys) l.initial.places l.places l.i l.gathered;
}
