-- The pace of requests to a server that was busy.
use Rattle.std.specs.Prelude.{◌≡◌, ℕ, ◌+◌, ◌-◌, ◌*◌, ◌/◌, ◌%◌, ◌^◌, ◌<◌, ◌≤◌, min, max}

-- the microseconds that are spent by now: those spent before, and those since the last reply, where a second counts at
-- most. So a wait for a busy server counts as a second, however long it is
abbrev pub spent_by : ℕ → ℕ → ℕ → ℕ
spent_by spent last now = min (spent + min (now - last) 1000000) (2 ^ 64 - 1)

-- the microseconds that a good reply took, at least one and at most a second
abbrev pub pace_of : ℕ → ℕ → ℕ
pace_of good spent = max 1 (min (spent / good) 1000000)

-- the microseconds from one request to the next, 0 for no pace, after a refusal with these good replies before it, in the
-- time that was spent. A pace stays where fewer than 16 were good; where there was none, one is enough
pub record IsSlowed (good spent old new : ℕ) : Type 0 where
  pub none : good ≡ 0 → new ≡ old
  pub first : 1 ≤ good → old ≡ 0 → new ≡ pace_of good spent
  pub few : good < 16 → 1 ≤ old → new ≡ old
  pub enough : 16 ≤ good → new ≡ pace_of good spent

-- the good replies that count after a refusal, and the time that was spent on them: as before it where they are fewer
-- than 16, else none
pub record CountsOn (good spent new_good new_spent : ℕ) : Type 0 where
  pub few : good < 16 → (new_good ≡ good) × (new_spent ≡ spent)
  pub enough : 16 ≤ good → (new_good ≡ 0) × (new_spent ≡ 0)

-- the same after 64 good replies: the rate rises by a twentieth
abbrev pub raised : ℕ → ℕ
raised old = old * 20 / 21

-- the microseconds from one request to the next after a good reply, with that number of them: the rate rises after each 64
pub record IsAfterGood (good old new : ℕ) : Type 0 where
  pub rises : good % 64 ≡ 0 → new ≡ raised old
  pub stays : 1 ≤ good % 64 → new ≡ old
