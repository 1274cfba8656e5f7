-- Faults of reading files, as a command counts them.
use Rattle.std.proofs.Common.{◌≡◌, ℕ, ◌≤◌, List, Option, Some, None, Result, Ok, Err, refl, subst, sym}
use Rattle.std.proofs.lemmas.Bool.{false≢true}
use Rattle.std.specs.Result.{IsErr, IsErrAnd}
use Rattle.std.specs.Prelude.{IfErr, IfOk, IfSome, option_map}
use Rattle.log_reader.specs.Ways.{HasEdgeHashes, Reader}
use Rattle.program_copies.specs.Statuses.{HasPoint, IsStatusOf, ReportsStatus, reader_point}
use Rattle.signed_note.specs.Keys.{Key}
use Rattle.mirror_folders.specs.Shelf.{Put, RecordsRead}
use Rattle.log_reader.specs.EdgeRows.{hash_of_edge}
use Rattle.log_reader.specs.FalseEdges.{IsEdgeGiven}
use Rattle.copy_reader.specs.Copies.{HasCheckpoint, IsRefused, OpensCopy}
use Rattle.copy_reader.specs.Ends.{IsEndShown, IsReadAtEnd}
use Rattle.mirror_sources.specs.Recorded.{KeepsRecord}
use Rattle.program_reports.specs.declared.reports.Report.{Report as Printout}
use Rattle.copy_reader.specs.Damage.{NamesProofDamage}
use Rattle.copy_reader.specs.Faults.{CountsRead, IsReadFault}
use Rattle.copy_reader.specs.WholeCopies.{GivesOr, HoldsWhole, IsShelfFailure, OpensWhole, ReadsCopyOf}
use Rattle.copy_reader.proofs.Ends.{end_before}
use Rattle.copy_reader.proofs.WholeCopies.{files_later}
use Rattle.copy_reader.specs.Proofs.{IsTrueText}
use Rattle.tlog_proof.specs.declared.proof.Ask.{Ask}
use Rattle.tlog_shape.specs.declared.TheConstants.{MAX_SIZE}
use Rattle.program_reports.specs.declared.fault.AskFault.TheVariants.{Report, WriteFault}
use Rattle.program_reports.specs.declared.fault.ReportFault.TheVariants.{NothingComplete, NoSuchHead}
use Rattle.program_reports.specs.declared.fault.ReportFault.TheVariants.{Proof as Refused, OutOfMemory as NoMemory}
use Rattle.program_copies.specs.Comparisons.{IsComparisonOf, IsLogRead}
use Rattle.program_copies.specs.Damages.{IsDamagedProof, NamesAsked, NamesUnder}
use Rattle.program_copies.specs.GivenFiles.{IsEdgeTo}
use Rattle.program_copies.specs.Proofs.{IsProvable, IsReadOf, ReportsAsk, ReportsProof}
use Rattle.program_copies.proofs.Damages.{proof_names, proof_names_before, proof_under}
use Rattle.program_copies.specs.declared.fault.CopyAskFault.{CopyAskFault}
use Rattle.program_copies.specs.declared.fault.CopyAskFault.TheVariants as asking
use Rattle.copy_reader.specs.declared.fault.CopyFault.{CopyFault}
use Rattle.copy_reader.specs.declared.fault.CopyFault.TheVariants.{BadOrigin, Head, CopyDamaged, ShelfFault, OutOfMemory}

-- if a read of an opened copy ended by a fault, this is the reason
pub read_refused : {T : Type 0} (digest : List ℕ → List ℕ) (origin : List ℕ) (keys : List Key) (held after : Option (List Put))
    (old new : Reader) (claim : List (List ℕ) → T → Type 0) (a b : ℕ) (fault : CopyFault) → KeepsRecord held after →
    OpensWhole digest origin held (Some old) → CountsRead {T = T} a b (Err fault) →
    ReadsCopyOf IsShelfFailure digest old new after (Err fault) claim → IsRefused digest origin keys held fault
read_refused digest origin keys held after old new claim a b BadOrigin kept opens counts reads = absurd counts
read_refused digest origin keys held after old new claim a b (Head f) kept opens counts reads = absurd counts
read_refused digest origin keys held after old new claim a b (CopyDamaged path) kept opens counts reads =
    λ note entries w. (reads entries (opens note entries w) (files_later digest held after kept entries w.files)).answer
read_refused digest origin keys held after old new claim a b ShelfFault kept opens counts reads = tt
read_refused digest origin keys held after old new claim a b OutOfMemory kept opens counts reads = tt

-- the comparisons with the opened log are those with the log of each whole copy
pub compared_whole : (digest : List ℕ → List ℕ) (origin : List ℕ) (held after : Option (List Put)) (reader : Reader) (size : ℕ)
    (root : List ℕ) (given : Option (List (ℕ × List ℕ))) (report : Printout) → KeepsRecord held after →
    OpensWhole digest origin held (Some reader) →
    IsComparisonOf digest size root given (IsLogRead digest reader after) report →
    IsComparisonOf digest size root given (HoldsWhole digest origin held) report
compared_whole digest origin held after reader size root given report kept opens c = record {
  compared = c.compared;
  are = c.are;
  whole = λ entries w. c.whole entries (opens w.0 entries w.1, files_later digest held after kept entries w.1.files);
  text = c.text;
  status = c.status;
}

-- the size and root of an opened copy
pub opened_has : (digest : List ℕ → List ℕ) (origin : List ℕ) (keys : List Key) (held : Option (List Put)) (opened : Option Reader) →
    OpensCopy digest origin keys held (Ok opened) → HasPoint origin keys held (option_map reader_point opened)
opened_has digest origin keys held None h = h
opened_has digest origin keys held (Some reader) h = h

-- the checkpoint of an opened copy
pub opened_checkpoint : (digest : List ℕ → List ℕ) (origin : List ℕ) (keys : List Key) (held : Option (List Put)) (opened : Option Reader)
    (reader : Reader) → OpensCopy digest origin keys held (Ok opened) → opened ≡ Some reader →
    HasCheckpoint origin keys held reader.edge.size reader.root
opened_checkpoint digest origin keys held opened reader h is = subst (λ o. OpensCopy digest origin keys held (Ok o)) is h

-- the edge of an opened copy was read, and the bundle at its end, after the puts were kept
pub read_at_end : (digest : List ℕ → List ℕ) (held after : Option (List Put)) → KeepsRecord held after → (opened : Option Reader) (reader : Reader) →
    IfSome opened (λ r. IsEdgeGiven (RecordsRead held) r.edge.size r.edge) → opened ≡ Some reader →
    HasEdgeHashes reader.edge → hash_of_edge digest reader.edge ≡ reader.root → IsEndShown digest after reader.edge →
    IsReadAtEnd digest held reader.edge.size reader.root
read_at_end digest held after kept opened reader h is hashes leads end = record {
  edge = reader.edge;
  hashes = hashes;
  size_is = refl;
  leads = leads;
  given = subst (λ o. IfSome o (λ r. IsEdgeGiven (RecordsRead held) r.edge.size r.edge)) is h;
  end = end_before digest held after kept reader.edge end;
}

-- the report on a log whose edge and end were read
pub reports_read : (digest : List ℕ → List ℕ) (origin : List ℕ) (keys : List Key) (held : Option (List Put)) (reader : Reader)
    (size : ℕ) (root : List ℕ) (r : Result Printout CopyAskFault) → size ≡ reader.edge.size → root ≡ reader.root →
    HasCheckpoint origin keys held reader.edge.size reader.root →
    IsReadAtEnd digest held reader.edge.size reader.root →
    IfOk r (IsStatusOf origin (Some (record { size = size; root = root }))) →
    IfErr r (λ fault. fault ≡ asking.Copy OutOfMemory) → ReportsStatus digest origin keys held r
reports_read digest origin keys held reader size root (Ok report) is_size is_root has whole report_is err = record {
  point = Some (record { size = size; root = root });
  has = subst (λ n. HasCheckpoint origin keys held n root) (sym is_size)
      (subst (λ h. HasCheckpoint origin keys held reader.edge.size h) (sym is_root) has);
  whole = subst (λ n. IsReadAtEnd digest held n root) (sym is_size)
      (subst (λ h. IsReadAtEnd digest held reader.edge.size h) (sym is_root) whole);
  is = report_is;
}
reports_read digest origin keys held reader size root (Err fault) is_size is_root has whole report_is err =
    subst (λ f. ReportsStatus digest origin keys held (Err f)) (sym err) (record { refused = tt; named = tt })

-- the opened folder has the content of the folder of that name
pub opens_there : (digest : List ℕ → List ℕ) (origin : List ℕ) (keys : List Key) (x y : Option (List Put))
    (result : Result (Option Reader) CopyFault) → x ≡ y → OpensCopy digest origin keys x result →
    OpensCopy digest origin keys y result
opens_there digest origin keys x y result e h = subst (λ held. OpensCopy digest origin keys held result) e h

-- so has its edge
pub edge_there : (x y : Option (List Put)) (result : Result (Option Reader) CopyFault) → x ≡ y →
    IfOk result (λ o. IfSome o (λ reader. IsEdgeGiven (RecordsRead x) reader.edge.size reader.edge)) →
    IfOk result (λ o. IfSome o (λ reader. IsEdgeGiven (RecordsRead y) reader.edge.size reader.edge))
edge_there x y result e h = subst
    (λ held. IfOk result (λ o. IfSome o (λ reader. IsEdgeGiven (RecordsRead held) reader.edge.size reader.edge))) e h

-- an answer that ended by a fault of the shelf, or by refused memory
pub ends_by : {T : Type 0} (fault : CopyFault) (result : Result T CopyFault) → IsErr result × IsErrAnd result (λ f. f ≡ fault) →
    IsShelfFailure fault → (claim : T → Type 0) → GivesOr IsShelfFailure result claim
ends_by fault (Ok x) is h claim = absurd (false≢true is.0)
ends_by fault (Err f) is h claim = subst IsShelfFailure (sym is.1) h

pub ends_no_memory : {T : Type 0} (result : Result T CopyFault) → IsErr result × IsErrAnd result (λ f. f ≡ OutOfMemory) →
    (claim : T → Type 0) → GivesOr IsShelfFailure result claim
ends_no_memory result is claim = ends_by OutOfMemory result is tt claim

-- ---- proofs

module _ {T : Type 0} (view : T → List ℕ) (digest : List ℕ → List ℕ) (old new : Reader) (held : Option (List Put)) (ask : Ask)
  where
    abbrev ReadsProof : Result T CopyFault → Type 0
    ReadsProof result =
        old.edge.size ≤ MAX_SIZE →
        ReadsCopyOf IsShelfFailure digest old new held result (λ entries text. IsTrueText digest ask entries (view text))

    small : (entries : List (List ℕ)) → IsProvable digest old held entries → old.edge.size ≤ MAX_SIZE
    small entries p = subst (λ n. n ≤ MAX_SIZE) (sym p.is_read.0.size_is) p.small

    -- a proof that is read from a log is that of the definitions
    pub read_true : (text : T) → ReadsProof (Ok text) → (entries : List (List ℕ)) → IsProvable digest old held entries →
        IsTrueText digest ask entries (view text)
    read_true text reads entries p = (reads (small entries p) entries p.is_read.0 p.is_read.1).answer

    -- if the read ended by a fault, the shelf failed or memory was refused
    pub read_fails : (fault : CopyFault) → ReadsProof (Err fault) → (entries : List (List ℕ)) →
        IsProvable digest old held entries → IsShelfFailure fault
    read_fails fault reads entries p = (reads (small entries p) entries p.is_read.0 p.is_read.1).answer

-- a fault that was returned unchanged
pub passed_on : {T : Type 0} (P : CopyFault → Type 0) (fault : CopyFault) (result : Result T CopyFault) →
    IsErr result × IsErrAnd result (λ f. f ≡ fault) → P fault → IfErr result P
passed_on P fault (Ok x) is h = tt
passed_on P fault (Err f) is h = subst P (sym is.1) h

-- a fault of a read is one of reading files
pub read_fault : (T : Type 0) (a b : ℕ) (fault : CopyFault) → CountsRead {T = T} a b (Err fault) → IsReadFault fault
read_fault T a b BadOrigin counts = absurd counts
read_fault T a b (Head f) counts = absurd counts
read_fault T a b (CopyDamaged path) counts = tt
read_fault T a b ShelfFault counts = tt
read_fault T a b OutOfMemory counts = tt

module _ (digest : List ℕ → List ℕ) (origin : List ℕ) (keys : List Key) (held after : Option (List Put)) (reader : Reader)
    (kept : KeepsRecord held after) (opens : OpensWhole digest origin held (Some reader))
    (checkpoint : HasCheckpoint origin keys held reader.edge.size reader.root)
    (to : IsEdgeTo digest reader.edge.size reader.root reader.edge) (ask : Ask) where
  -- the log of a whole copy is the opened one
  provable : (entries : List (List ℕ)) → HoldsWhole digest origin held entries → IsProvable digest reader after entries
  provable entries w = record {
    is_read = (opens w.0 entries w.1, files_later digest held after kept entries w.1.files);
    small = w.1.is_head.is_checkpoint.in_range;
  }

  proof_refused : (fault : CopyFault) →
      IsReadOf digest reader.edge.size reader.root (IsProvable digest reader after) fault →
      IsRefused digest origin keys held fault
  proof_refused BadOrigin r = absurd r.is
  proof_refused (Head f) r = absurd r.is
  proof_refused (CopyDamaged path) r = λ note entries w. r.whole entries (provable entries (note, w))
  proof_refused ShelfFault r = tt
  proof_refused OutOfMemory r = tt

  proof_named : (fault : CopyFault) → NamesProofDamage digest after reader.edge ask fault →
      NamesUnder digest origin keys held (IsDamagedProof digest held ask) fault
  proof_named fault h =
      proof_under digest reader.edge.size reader.root held ask origin keys checkpoint fault
      (proof_names_before digest reader.edge.size reader.root held after kept ask fault
      (proof_names digest reader.edge.size reader.root after ask reader.edge to fault h))

  -- a report on the opened log is a report on the copy
  pub proof_of_copy : (result : Result Printout CopyAskFault) →
      ReportsAsk digest reader.edge.size reader.root (IsProvable digest reader after) ask result →
      IfErr result (NamesAsked digest after reader.edge ask) → ReportsProof digest origin keys held ask result
  proof_of_copy (Ok report) p d = record {
    size = reader.edge.size;
    root = reader.root;
    checkpoint = checkpoint;
    is = record { is = p.is; whole = λ entries w. p.whole entries (provable entries w); status = p.status };
  }
  proof_of_copy (Err (asking.Copy fault)) p d = record { refused = proof_refused fault p; named = proof_named fault d }
  proof_of_copy (Err (asking.Heads fault)) p d = absurd p
  proof_of_copy (Err (asking.Ask (Report NothingComplete))) p d = absurd p
  proof_of_copy (Err (asking.Ask (Report (Refused fault)))) p d =
      record { size = reader.edge.size; root = reader.root; checkpoint = checkpoint; refused = p }
  proof_of_copy (Err (asking.Ask (Report NoSuchHead))) p d = absurd p
  proof_of_copy (Err (asking.Ask (Report NoMemory))) p d = absurd p
  proof_of_copy (Err (asking.Ask WriteFault)) p d = absurd p
