use Rattle.std.proofs.Common.{◌≡◌, ◌∙◌, ap, codes, refl, sym, unwrap_or}
use Rattle.clap.specs.Words.{found_of, rows_of}
use Rattle.program_words.specs.Commands.{Given, kind_name}
use Rattle.program_words.specs.declared.commands.take.Kind.{Kind}
use Rattle.program_words.specs.declared.commands.take.Kind.TheVariants.{Head, Tile, Bundle}
use Rattle.program_words.proofs.Judging.{kept, noted}
use Rattle.program_words.proofs.Named.{apart}
use Rattle.program_words.proofs.commands.take.kind_given.Goals as goal

-- a word names at most one kind
one_kind : (a b : Kind) → kind_name a ≡ kind_name b → a ≡ b
one_kind Head Head e = refl
one_kind Tile Tile e = refl
one_kind Bundle Bundle e = refl
one_kind Head Tile e = absurd (apart (codes "head") (codes "head") (codes "tile") refl e refl)
one_kind Head Bundle e = absurd (apart (codes "head") (codes "head") (codes "bundle") refl e refl)
one_kind Tile Head e = absurd (apart (codes "tile") (codes "tile") (codes "head") refl e refl)
one_kind Tile Bundle e = absurd (apart (codes "tile") (codes "tile") (codes "bundle") refl e refl)
one_kind Bundle Head e = absurd (apart (codes "bundle") (codes "bundle") (codes "head") refl e refl)
one_kind Bundle Tile e = absurd (apart (codes "bundle") (codes "bundle") (codes "tile") refl e refl)

pub returns-in-Some : goal.returns-in-Some
returns-in-Some c = record {
  part = kept (λ kind. Given (rows_of (found_of c.args.found.now)) (codes "kind") (kind_name kind)) c.args.refusals.now
      c.in-Some.kind c.in-Some.ensures;
  one = λ k is. one_kind c.in-Some.kind k
      (ap (λ o. unwrap_or o (kind_name c.in-Some.kind)) (sym c.in-Some.ensures ∙ is));
}

pub returns-in-None : goal.returns-in-None
returns-in-None c = record {
  part = noted (λ kind. Given (rows_of (found_of c.args.found.now)) (codes "kind") (kind_name kind)) c.args.refusals.now _
      Head c.in-None.ensures c.note.ensures;
  one = λ k is. absurd (c.in-None.ensures k is);
}
