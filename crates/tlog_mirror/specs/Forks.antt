-- The forks among tree heads, each given by its size and root, over the strings of a store.
use Rattle.std.specs.Prelude.{◌≡◌, ◌≢◌, ◌⊎◌, ◌↔◌, ℕ, List, [], map, Option, Bool, IsTrue, Result, Ok, Err}
use Rattle.std.specs.Io.KnownBytes.{Appends, Keeps}
use Rattle.std.specs.declared.cmp.Ordering.TheVariants.{Less}
use Rattle.std.specs.List.{Contains}
use Rattle.std.specs.List.Sorted.{IsStrictlySortedBy}
use Rattle.byte_streams.specs.Streams.{AppendsPrefix}
use Rattle.byte_streams.specs.declared.fault.StreamFault.{StreamFault}
use Rattle.byte_streams.specs.declared.fault.StreamFault.TheVariants.{ReadFault, WriteFault}
use Rattle.byte_streams.specs.declared.fault.StreamFault.TheVariants.{OutOfMemory}
use Rattle.node_store.specs.Strings.{Strings}
use Rattle.mirror_model.specs.Complete.{IsTreeOf}
use Rattle.mirror_model.specs.Forks.{IsPrefix}
use Rattle.mirror_model.specs.Listed.{pair_cmp}
use Rattle.mirror_model.specs.Reports.{fork_pair}
use Rattle.mirror_model.specs.Texts.{forks_text}
use Rattle.mirror_model.specs.declared.reports.Fork.{Fork}
use Rattle.tlog_mirror.specs.Points.{by_point}

-- the fork is a pair of the tree heads, the lesser one first
pub record IsPairOf (heads : List (ℕ × List ℕ)) (fork : Fork) : Type 0 where
  pub small : Contains heads fork.small
  pub large : Contains heads fork.large
  pub order : by_point fork.small fork.large ≡ Less

module _ (digest : List ℕ → List ℕ) (held : Strings) where
  -- both trees are held, and the entries of the first are no prefix of the entries of the second
  pub record Departs (a b : ℕ × List ℕ) : Type 0 where
    pub first : List (List ℕ)
    pub second : List (List ℕ)
    pub first_tree : IsTreeOf digest held a.0 a.1 first
    pub second_tree : IsTreeOf digest held b.0 b.1 second
    pub not_prefix : ¬ IsPrefix first second

  -- one log cannot have both tree heads: they have one size, or the second departs from the first
  abbrev pub Conflicts : ℕ × List ℕ → ℕ × List ℕ → Type 0
  Conflicts a b = (a.0 ≡ b.0) ⊎ Departs a b

  -- the fork is a pair of conflicting tree heads
  abbrev pub IsForkOf : List (ℕ × List ℕ) → Fork → Type 0
  IsForkOf heads fork = IsPairOf heads fork × Conflicts fork.small fork.large

  -- the forks are all pairs of conflicting tree heads, each once, in order
  pub record AreForksOf (heads : List (ℕ × List ℕ)) (forks : List Fork) : Type 0 where
    pub sorted : IsStrictlySortedBy pair_cmp (map fork_pair forks)
    pub exact : (fork : Fork) → Contains forks fork ↔ IsForkOf heads fork

  module _ (heads : List (ℕ × List ℕ)) (old new : Option (List ℕ)) where
    -- the lines of all forks were written, and the answer says whether there is one
    pub record WritesAllForks (any : Bool) : Type 0 where
      pub forks : List Fork
      pub are_forks : AreForksOf heads forks
      pub written : Appends old new (forks_text forks)
      pub tells : IsTrue any ↔ (forks ≢ [])

    -- a write failed, and a prefix of the lines was written
    pub record WritesSomeForks : Type 0 where
      pub forks : List Fork
      pub are_forks : AreForksOf heads forks
      pub written : AppendsPrefix old new (forks_text forks)

    -- each answer of a writer of the forks is right about the written bytes
    abbrev pub WritesForksOf : Result Bool StreamFault → Type 0
    WritesForksOf (Ok any) = WritesAllForks any
    WritesForksOf (Err WriteFault) = WritesSomeForks
    WritesForksOf (Err OutOfMemory) = Keeps old new
    WritesForksOf (Err ReadFault) = ⊥
