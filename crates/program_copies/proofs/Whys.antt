-- One more line with a reason.
use Rattle.std.proofs.Common.{◌≡◌, ◌∙◌, ℕ, List, [], ◌∷◌, ◌++◌, refl, ap}
use Rattle.std.proofs.lemmas.List.{flat_map_more}
use Rattle.std.proofs.lemmas.List.Elements.{All-append, All-cons, All-nil}
use Rattle.program_io.specs.FileWhy.{IsWhyLine}
use Rattle.program_copies.specs.Whys.{AreWhyLines}

pub no_whys : AreWhyLines []
no_whys = record { lines = []; each = All-nil IsWhyLine; text_is = refl }

pub whys_more : (text line new : List ℕ) → AreWhyLines text → IsWhyLine line → new ≡ text ++ line → AreWhyLines new
whys_more text line new before is more = record {
  lines = before.lines ++ line ∷ [];
  each = All-append IsWhyLine before.lines (line ∷ []) before.each
      (All-cons IsWhyLine line [] is (All-nil IsWhyLine));
  text_is = more ∙ (ap (λ t. t ++ line) before.text_is ∙ flat_map_more (λ (l : List ℕ). l) [] before.lines line);
}
