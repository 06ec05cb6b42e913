-- What a local operation does to a volume.
use Rattle.std.proofs.Common.{◌≡◌, ◌<◌, ◌≤◌, ◌+◌, ◌-◌, ◌^◌, ℕ, Bool, true, false, cond, refl, arith, ◌&&◌}
use Rattle.std.proofs.lemmas.Bool.Decides.{nat_tests}
use Rattle.vol_state.specs.declared.command.VolCmd.{VolCmd}
use Rattle.vol_state.specs.declared.command.VolCmd.TheVariants.{PutNew, PutOver, Mkdir, Move, Remove, Park, Erase, Make, Rewrite, Place}
use Rattle.vol_state.specs.State.{State}
use Rattle.vol_state.specs.Seen.{fresh_state}
use Rattle.vol_state.specs.Numbers.{greatest_fid, greatest_usn, has_numbers}
use Rattle.vol_state.specs.Conditions.{is_allowed, step}
use Rattle.vol_state.specs.Effects.{effect}
use Rattle.vol_state.specs.Maps.{Maps}
use Rattle.vol_state.specs.Tables.{IsLocal}
use Rattle.vol_state.specs.Laws.{AreFree, IsInTime}

-- ---- numbers

-- there are numbers for every command
pub has_all : (cmd : VolCmd) (v : State) → AreFree v → v.next_fid ≤ v.next_usn → v.next_usn < 2 ^ 64 - 1 → has_numbers cmd v ≡ true
has_all cmd v free fids usns = let fid = free.fid in let usn = free.usn in grind (arith, nat_tests)

-- no number is in use in a fresh volume
pub free_fresh : (own : ℕ) → AreFree (fresh_state own)
unfolding greatest_fid greatest_usn
free_fresh own = record { fid = omega arith; usn = omega arith }

-- a command takes one USN, and one number at most
pub one_usn : (cmd : VolCmd) (v : State) → (effect cmd v).next_usn ≡ v.next_usn + 1
one_usn (PutNew parent name bytes) v = refl
one_usn (PutOver fid bytes) v = refl
one_usn (Mkdir parent name) v = refl
one_usn (Move fid parent name) v = refl
one_usn (Remove fid) v = refl
one_usn (Park fid) v = refl
one_usn (Erase fid) v = refl
one_usn (Make uid kind bytes) v = refl
one_usn (Rewrite fid bytes) v = refl
one_usn (Place fid parent name) v = refl

pub one_fid : (cmd : VolCmd) (v : State) → (effect cmd v).next_fid ≤ v.next_fid + 1
one_fid (PutNew parent name bytes) v = omega arith
one_fid (PutOver fid bytes) v = omega arith
one_fid (Mkdir parent name) v = omega arith
one_fid (Move fid parent name) v = omega arith
one_fid (Remove fid) v = omega arith
one_fid (Park fid) v = omega arith
one_fid (Erase fid) v = omega arith
one_fid (Make uid kind bytes) v = omega arith
one_fid (Rewrite fid bytes) v = omega arith
one_fid (Place fid parent name) v = omega arith

-- the database stays
pub same_own : (cmd : VolCmd) (v : State) → (effect cmd v).own ≡ v.own
same_own (PutNew parent name bytes) v = refl
same_own (PutOver fid bytes) v = refl
same_own (Mkdir parent name) v = refl
same_own (Move fid parent name) v = refl
same_own (Remove fid) v = refl
same_own (Park fid) v = refl
same_own (Erase fid) v = refl
same_own (Make uid kind bytes) v = refl
same_own (Rewrite fid bytes) v = refl
same_own (Place fid parent name) v = refl

-- ---- steps

-- a command that may be done and has its numbers has its effect
pub step_is : (cmd : VolCmd) (v : State) → has_numbers cmd v ≡ true → is_allowed cmd v ≡ true → step cmd v ≡ effect cmd v
step_is cmd v numbers allowed = by (has_numbers cmd v) (is_allowed cmd v) numbers allowed
  where
    by : (a b : Bool) → a ≡ true → b ≡ true → cond (a && b) (effect cmd v) v ≡ effect cmd v
    by true true p q = refl
    by true false p q = absurd (cc)
    by false b p q = absurd (cc)

-- no local operation makes an object of a UID to be born
pub in_time : (cmd : VolCmd) (v : State) (m : Maps) → IsLocal m cmd → IsInTime cmd v
in_time (PutNew parent name bytes) v m local = tt
in_time (PutOver fid bytes) v m local = tt
in_time (Mkdir parent name) v m local = tt
in_time (Move fid parent name) v m local = tt
in_time (Remove fid) v m local = tt
in_time (Park fid) v m local = tt
in_time (Erase fid) v m local = tt
in_time (Make uid kind bytes) v m local = absurd local
in_time (Rewrite fid bytes) v m local = tt
in_time (Place fid parent name) v m local = tt
