use Rattle.std.proofs.Common.{◌≡◌, ◌++◌, List, length}
use denote.Text.{Utf8}
use denote.Shadow.{shadow}
use Rattle.std.specs.Prelude.{All}
use Rattle.std.specs.List.{flat_map}
use Rattle.signed_note.specs.Notes.{SignatureParts, line_text, IsSignatureLine}
use Rattle.signed_note.specs.Reading.{AreSignatureLines}
use Rattle.signed_note.proofs.parts.read_lines.Given as goal

-- the lines up to here and the rest make the part, and any lines of the part end with lines of the rest
abbrev pub invariant-loop-rest : goal.invariant-loop-rest
invariant-loop-rest l = record {
  text : shadow (Utf8 l.rest);
  so_far : l.signed ≡ flat_map line_text l.lines.items ++ l.rest;
  well_formed : All IsSignatureLine l.lines.items;
  goes_on : (all : List SignatureParts) → AreSignatureLines l.signed all →
      (more : List SignatureParts) × AreSignatureLines l.rest more;
}

abbrev pub decreases-loop-rest : goal.decreases-loop-rest
decreases-loop-rest l = length l.rest
