-- The file at which the audit of a whole log stops.
use Rattle.std.proofs.Common.{◌≡◌, inl, inr, ℕ, List, [], ◌∷◌, ◌++◌, Option, Some, None, append_assoc, sym, ap, ◌∙◌, arith}
use Rattle.std.proofs.lemmas.List.{append-nil}
use Rattle.std.proofs.lemmas.List.Elements.{All-append, All-weaker}
use Rattle.signed_note.specs.Keys.{Key}
use Rattle.tlog_tiles.specs.declared.paths.Path.{Path}
use Rattle.tlog_tiles.specs.declared.paths.Path.TheVariants.{Checkpoint, Tile, Entries}
use Rattle.mirror_sources.specs.Files.{full_of}
use Rattle.mirror_sources.specs.Replies.{Reply, reply}
use Rattle.mirror_sources.specs.Source.{StaysWithin}
use Rattle.log_reader.specs.EdgeRows.{Edge}
use Rattle.copy_reader.specs.declared.audit_fault.AuditFault.{AuditFault}
use Rattle.copy_reader.specs.declared.audit_fault.AuditFault.TheVariants.{NoCheckpoint, Head, NoEdge, NoFile, FalseFile, Source, OutOfMemory}
use Rattle.copy_reader.specs.Audits.{IsHeadGiven}
use Rattle.copy_reader.specs.AuditFaults.{IsForAbsence}
use Rattle.copy_reader.specs.Found.{AreTrue, FileRead, Found, IsAbsent, IsAbsentEdge, IsEdgeRead, IsEdgeWrong, IsFileWrong, IsLogOf, IsOfEdge, IsPresent, IsReadInOrder}
use Rattle.copy_reader.specs.Found.{NamesWrong, all_replies, paths_read, replies_of}
use Rattle.copy_reader.specs.Order.{below_edge, edge_order, file_order}
use Rattle.copy_reader.specs.Stops.{AreRead, HasSize, Misleads, NamesHead, StopsAt, StopsEdge, StopsIn, StopsLog}
use Rattle.copy_reader.proofs.FilePaths.{IsEdgeRow, IsLow, all_before, all_next, below_low, edge_rows, not_below}
use Rattle.copy_reader.proofs.Given.{given_then}
use Rattle.copy_reader.proofs.Stops.{stops_later}

module _ (digest : List ℕ → List ℕ) (size : ℕ) (root : List ℕ) where
  abbrev log : List (List ℕ) → Type 0
  log = IsLogOf digest size root

  -- among the rows of the edge
  module _ (a b : Path → Option (List ℕ) → Type 0) (x y : Option (List Path)) where
    at_edge : (kind : Path → Found → Type 0) (path : Path) →
        StopsAt digest (edge_order size 8) (HasSize digest size) kind path a b x y →
        StopsLog digest (edge_order size 8) size root kind path a b x y
    at_edge kind path s = record {
      stops = record {
        before = s.before;
        found = s.found;
        rest = s.rest;
        given = s.given;
        order = s.order;
        is_kind = s.is_kind;
        verified = λ entries l. s.verified entries (record { short = l.short; size_is = l.size_is });
        wrong = λ entries l t. s.wrong entries (record { short = l.short; size_is = l.size_is }) t;
      };
      edge = λ below. absurd (not_below size path
          (all_next (IsEdgeRow size) (edge_order size 8) (paths_read s.before) s.rest path s.order (edge_rows size)) below);
    }

    pub stops_at_edge : (fault : AuditFault) → StopsIn digest (edge_order size 8) (HasSize digest size) a b x y fault →
        StopsEdge digest (edge_order size 8) size root a b x y fault
    stops_at_edge NoCheckpoint h = absurd h
    stops_at_edge (Head f) h = absurd h
    stops_at_edge NoEdge h = (h.0, at_edge IsAbsentEdge h.0 h.1)
    stops_at_edge (NoFile path) h = at_edge IsAbsent path h
    stops_at_edge (FalseFile path) h = inl (at_edge IsPresent path h)
    stops_at_edge Source h = tt
    stops_at_edge OutOfMemory h = tt

    -- more files come after the edge
    longer : (kind : Path → Found → Type 0) (path : Path) → StopsLog digest (edge_order size 8) size root kind path a b x y →
        StopsLog digest (file_order size) size root kind path a b x y
    longer kind path s =
        let t = s.stops in
        record {
          stops = record {
            before = t.before;
            found = t.found;
            rest = t.rest ++ below_edge size;
            given = t.given;
            order = ap (λ (l : List Path). l ++ below_edge size) t.order
                ∙ append_assoc (paths_read t.before) (path ∷ t.rest) (below_edge size);
            is_kind = t.is_kind;
            verified = t.verified;
            wrong = t.wrong;
          };
          edge = s.edge;
        }

    pub stops_longer : (fault : AuditFault) → StopsEdge digest (edge_order size 8) size root a b x y fault →
        StopsEdge digest (file_order size) size root a b x y fault
    stops_longer NoCheckpoint h = absurd h
    stops_longer (Head f) h = absurd h
    stops_longer NoEdge h = (h.0, longer IsAbsentEdge h.0 h.1)
    stops_longer (NoFile path) h = longer IsAbsent path h
    stops_longer (FalseFile path) (inl h) = inl (longer IsPresent path h)
    stops_longer (FalseFile path) (inr h) = inr h
    stops_longer Source h = tt
    stops_longer OutOfMemory h = tt

  -- below the edge
  module _ (about : List (List ℕ) → Type 0) (a b c : Path → Option (List ℕ) → Type 0) (x y z : Option (List Path))
      (p : AreRead digest log (edge_order size 8) a b x y)
      (then : (entries : List (List ℕ)) → log entries → AreTrue digest entries p.reads → about entries)
      (e : IsEdgeRead digest size root p.reads) where
    no_rows_below : (edge : Edge) (path : Path) (found : Found) → IsLow size path → IsOfEdge edge path found
    no_rows_below edge Checkpoint found h = tt
    no_rows_below edge (Tile level index width) found h = λ low. absurd (omega (arith, h.1.width_is, low))
    no_rows_below edge (Entries index width) found h = tt

    below : (kind : Path → Found → Type 0) (path : Path) → StopsAt digest (below_edge size) about kind path b c y z →
        StopsLog digest (file_order size) size root kind path a c x z
    below kind path s =
        let parts : file_order size ≡ edge_order size 8 ++ (below_edge size ++ []) =
        ap (λ (l : List Path). edge_order size 8 ++ l) (sym (append-nil (below_edge size))) in
        record {
          stops = stops_later digest (edge_order size 8) (below_edge size) [] (file_order size) log about a b c x y z p then parts
              kind path s;
          edge = λ h. record {
            edge = e.edge;
            size_is = e.size_is;
            hashes = e.hashes;
            root_is = e.root_is;
            rows = All-append (λ (r : FileRead). IsOfEdge e.edge r.path r.found) p.reads s.before e.rows
                (All-weaker (λ (r : FileRead). IsLow size r.path) (λ (r : FileRead). IsOfEdge e.edge r.path r.found)
                (λ r low. no_rows_below e.edge r.path r.found low) s.before
                (all_before (IsLow size) (below_edge size) s.rest path s.before s.order (below_low size)));
          };
        }

    pub stops_below : (fault : AuditFault) → StopsIn digest (below_edge size) about b c y z fault →
        StopsEdge digest (file_order size) size root a c x z fault
    stops_below NoCheckpoint h = absurd h
    stops_below (Head f) h = absurd h
    stops_below NoEdge h = (h.0, below IsAbsentEdge h.0 h.1)
    stops_below (NoFile path) h = below IsAbsent path h
    stops_below (FalseFile path) h = inl (below IsPresent path h)
    stops_below Source h = tt
    stops_below OutOfMemory h = tt

module _ (digest : List ℕ → List ℕ) (origin : List ℕ) (keys : List Key) where
  -- at the checkpoint
  pub names_head : (a b : Path → Option (List ℕ) → Type 0) (x y : Option (List Path)) (fault : AuditFault) →
      NamesHead origin keys a b x y fault → NamesWrong digest origin keys a b x y fault
  names_head a b x y NoCheckpoint h = h
  names_head a b x y (Head f) h = h
  names_head a b x y NoEdge h = absurd h
  names_head a b x y (NoFile path) h = absurd h
  names_head a b x y (FalseFile path) h = absurd h
  names_head a b x y Source h = tt
  names_head a b x y OutOfMemory h = tt

  -- after the checkpoint
  module _ (size : ℕ) (root : List ℕ) (a b c : Path → Option (List ℕ) → Type 0) (x y z : Option (List Path))
      (head : IsHeadGiven origin keys size root a b x y) where
    abbrev first : List Reply
    first = reply Checkpoint (Some head.note) ∷ []

    file_wrong : (kind : Path → Found → Type 0) (path : Path) →
        StopsLog digest (file_order size) size root kind path b c y z → IsFileWrong digest origin keys kind path a c x z
    file_wrong kind path s =
        let t = s.stops in
        record {
          note = head.note;
          size = size;
          root = root;
          is_head = head.is_head;
          before = t.before;
          found = t.found;
          rest = t.rest;
          given = given_then a b c x y z first (all_replies t.before ++ replies_of path t.found) head.given t.given;
          order = t.order;
          is_kind = t.is_kind;
          verified = t.verified;
          wrong = t.wrong;
          edge = s.edge;
        }

    edge_wrong : (path : Path) → Misleads digest size root path b c y z → IsEdgeWrong digest origin keys path a c x z
    edge_wrong path m = record {
      note = head.note;
      size = size;
      root = root;
      is_head = head.is_head;
      reads = m.reads;
      given = given_then a b c x y z first (all_replies m.reads) head.given m.given;
      order = m.order;
      lowest = m.lowest;
      wrong = m.wrong;
    }

    pub names_wrong : (fault : AuditFault) → StopsEdge digest (file_order size) size root b c y z fault →
        NamesWrong digest origin keys a c x z fault
    names_wrong NoCheckpoint h = absurd h
    names_wrong (Head f) h = absurd h
    names_wrong NoEdge h = (h.0, file_wrong IsAbsentEdge h.0 h.1)
    names_wrong (NoFile path) h = file_wrong IsAbsent path h
    names_wrong (FalseFile path) (inl h) = inl (file_wrong IsPresent path h)
    names_wrong (FalseFile path) (inr h) = inr (edge_wrong path h)
    names_wrong Source h = tt
    names_wrong OutOfMemory h = tt

    pub read_in_order : AreRead digest (IsLogOf digest size root) (file_order size) b c y z → IsReadInOrder size a c x z
    read_in_order r = record {
      note = head.note;
      reads = r.reads;
      given = given_then a b c x y z first (all_replies r.reads) head.given r.given;
      order = r.paths_are;
    }

-- a file that a source may lack now is one that it might have lacked before
pub absence_before : (old new : Path → Option (List ℕ) → Type 0) → StaysWithin old new → (fault : AuditFault) →
    IsForAbsence new fault → IsForAbsence old fault
absence_before old new s NoCheckpoint h = s.stays Checkpoint None h
absence_before old new s (Head f) h = tt
absence_before old new s NoEdge h =
    (h.0, record { none = s.stays h.0 None h.1.none; full = s.stays (full_of h.0) None h.1.full })
absence_before old new s (NoFile path) h =
    record { none = s.stays path None h.none; full = s.stays (full_of path) None h.full }
absence_before old new s (FalseFile path) h = tt
absence_before old new s Source h = tt
absence_before old new s OutOfMemory h = tt
