use Rattle.std.proofs.Common.{◌≢◌, ℕ, ◌<◌, List, get_or, length, subst, sym}
use Rattle.mirror_sources.specs.Source.{File}
use Rattle.copy_places.specs.ReadFiles.{IsThere}
use Rattle.copy_places.specs.declared.proof_files.ReadFile.{ReadFile}
use Rattle.copy_places.proofs.ReadFiles.{not_there}
use Rattle.copy_places.proofs.proof_files.ReadFiles.find.Goals as goal

pub returns-in-None-clause-none : goal.returns-in-None-clause-none
returns-in-None-clause-none c = λ there.
    let path = c.args.path.now in
    not_there c.self.inside.files.items path
    (subst (λ (fs : List ReadFile). (i : ℕ) (d : ReadFile) → i < length fs → (get_or fs i d).path ≢ path) c.deref.ensures.value
    c.in-None.ensures.none)
    (subst (λ (fs : List File). IsThere fs path) (sym c.self.view_is) there)
