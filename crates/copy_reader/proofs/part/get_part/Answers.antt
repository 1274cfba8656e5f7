use Rattle.std.proofs.Common.{[], ◌∷◌, refl, Some, None, Vec, Global, ℕ}
use Rattle.mirror_sources.specs.Files.{full_of}
use Rattle.copy_reader.specs.Edges.{IsFullGiven, IsGivenAt}
use Rattle.copy_reader.proofs.Given.{given_one, if_found, if_none, in_its_place, may_none, may_some, there}
use Rattle.log_reader.proofs.TrueReads.{way_later}
use Rattle.mirror_sources.specs.Replies.{reply}
use Rattle.copy_reader.specs.Found.{Here}
use Rattle.copy_reader.specs.Stops.{FindsFalse, IsFullRead, IsPartRead}
use Rattle.copy_reader.proofs.Stops.{false_part, gone_both, on_err, read_part}
use Rattle.copy_reader.proofs.part.get_part.Goals as goal

pub returns-in-Some-clause-given : goal.returns-in-Some-clause-given
returns-in-Some-clause-given g c =
    let a = g.S.Source.may_answer c.args.source.now in
    let b = g.S.Source.may_answer c.get.new.self in
    let x = g.S.Source.asked c.args.source.now in
    let y = g.S.Source.asked c.get.new.self in
    there a b x y c.args.path c.in-Some.bytes.items
    (given_one a b x y c.args.path (Some c.in-Some.bytes.items) c.in_ok-bytes.ensures.later
    (may_some a c.args.path c.in_ok-bytes.field-0 c.in-Some.bytes c.in-Some.is c.in_ok-bytes.ensures.answer)
    c.in_ok-bytes.ensures.recorded)

pub returns-in-None-clause-given : goal.returns-in-None-clause-given
returns-in-None-clause-given g c =
    let a = g.S.Source.may_answer c.args.source.now in
    let b = g.S.Source.may_answer c.get.new.self in
    let d = g.S.Source.may_answer c.get_full_part.new.source in
    let x = g.S.Source.asked c.args.source.now in
    let y = g.S.Source.asked c.get.new.self in
    let z = g.S.Source.asked c.get_full_part.new.source in
    let path = c.args.path in
    if_found (λ (v : Vec ℕ Global). IsFullGiven path v.items b d y z) (λ (v : Vec ℕ Global). IsGivenAt path v.items a d x z)
    c.get_full_part.result
    (λ v full. in_its_place a b d x y z path v.items c.requires
    (given_one a b x y path None c.in_ok-bytes.ensures.later
    (may_none a path c.in_ok-bytes.field-0 c.in-None.is c.in_ok-bytes.ensures.answer) c.in_ok-bytes.ensures.recorded) full)
    c.get_full_part.ensures.given

pub returns-in-None-clause-none : goal.returns-in-None-clause-none
returns-in-None-clause-none g c =
    let a = g.S.Source.may_answer c.args.source.now in
    let path = c.args.path in
    if_none c.get_full_part.result
    (λ full. record {
      none = may_none a path c.in_ok-bytes.field-0 c.in-None.is c.in_ok-bytes.ensures.answer;
      full = c.in_ok-bytes.ensures.later.stays (full_of path) None full;
    })
    c.get_full_part.ensures.none

pub returns-in-Some-clause-honest : goal.returns-in-Some-clause-honest
returns-in-Some-clause-honest g c = λ digest entries hash s file.
    s.files c.args.path file (Some c.in-Some.bytes.items)
    (may_some (g.S.Source.may_answer c.args.source.now) c.args.path c.in_ok-bytes.field-0 c.in-Some.bytes c.in-Some.is
    c.in_ok-bytes.ensures.answer)

pub returns-in-None-clause-honest : goal.returns-in-None-clause-honest
returns-in-None-clause-honest g c = λ digest entries hash s file.
    let a = g.S.Source.may_answer c.args.source.now in
    let b = g.S.Source.may_answer c.get.new.self in
    let way = s.files c.args.path file None
    (may_none a c.args.path c.in_ok-bytes.field-0 c.in-None.is c.in_ok-bytes.ensures.answer) in
    c.get_full_part.ensures.honest digest entries hash s.short file
    (way_later digest entries a b c.in_ok-bytes.ensures.later c.args.path way)

pub returns-in-Some-clause-read : goal.returns-in-Some-clause-read
returns-in-Some-clause-read g c = record {
  found = Here c.in-Some.bytes.items;
  given = given_one (g.S.Source.may_answer c.args.source.now) (g.S.Source.may_answer c.get.new.self)
      (g.S.Source.asked c.args.source.now) (g.S.Source.asked c.get.new.self) c.args.path (Some c.in-Some.bytes.items)
      c.in_ok-bytes.ensures.later
      (may_some (g.S.Source.may_answer c.args.source.now) c.args.path c.in_ok-bytes.field-0 c.in-Some.bytes c.in-Some.is
      c.in_ok-bytes.ensures.answer)
      c.in_ok-bytes.ensures.recorded;
  present = tt;
  begins = refl;
  is_true = λ digest entries hash short file is. is;
}

pub returns-in-None-clause-read : goal.returns-in-None-clause-read
returns-in-None-clause-read g c =
    let a = g.S.Source.may_answer c.args.source.now in
    let b = g.S.Source.may_answer c.get.new.self in
    let d = g.S.Source.may_answer c.get_full_part.new.source in
    let x = g.S.Source.asked c.args.source.now in
    let y = g.S.Source.asked c.get.new.self in
    let z = g.S.Source.asked c.get_full_part.new.source in
    let path = c.args.path in
    if_found (λ (v : Vec ℕ Global). IsFullRead path v.items b d y z) (λ (v : Vec ℕ Global). IsPartRead path v.items a d x z)
    c.get_full_part.result
    (λ v full. read_part path a b d x y z
    (given_one a b x y path None c.in_ok-bytes.ensures.later
    (may_none a path c.in_ok-bytes.field-0 c.in-None.is c.in_ok-bytes.ensures.answer) c.in_ok-bytes.ensures.recorded)
    v.items c.requires full)
    c.get_full_part.ensures.read

pub returns-in-None-clause-gone : goal.returns-in-None-clause-gone
returns-in-None-clause-gone g c =
    let a = g.S.Source.may_answer c.args.source.now in
    let b = g.S.Source.may_answer c.get.new.self in
    let d = g.S.Source.may_answer c.get_full_part.new.source in
    let x = g.S.Source.asked c.args.source.now in
    let y = g.S.Source.asked c.get.new.self in
    let z = g.S.Source.asked c.get_full_part.new.source in
    let path = c.args.path in
    if_none c.get_full_part.result
    (gone_both path a b d x y z
    (given_one a b x y path None c.in_ok-bytes.ensures.later
    (may_none a path c.in_ok-bytes.field-0 c.in-None.is c.in_ok-bytes.ensures.answer) c.in_ok-bytes.ensures.recorded))
    c.get_full_part.ensures.gone

pub returns-in-None-clause-first : goal.returns-in-None-clause-first
returns-in-None-clause-first g c =
    let a = g.S.Source.may_answer c.args.source.now in
    let b = g.S.Source.may_answer c.get.new.self in
    let d = g.S.Source.may_answer c.get_full_part.new.source in
    let x = g.S.Source.asked c.args.source.now in
    let y = g.S.Source.asked c.get.new.self in
    let z = g.S.Source.asked c.get_full_part.new.source in
    let path = c.args.path in
    on_err (FindsFalse path [] b d y z) (FindsFalse path (reply path None ∷ []) a d x z) c.get_full_part.result
    (false_part path a b d x y z
    (given_one a b x y path None c.in_ok-bytes.ensures.later
    (may_none a path c.in_ok-bytes.field-0 c.in-None.is c.in_ok-bytes.ensures.answer) c.in_ok-bytes.ensures.recorded))
    c.get_full_part.ensures.first
