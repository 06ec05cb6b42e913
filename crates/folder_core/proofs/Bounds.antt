-- Versions and clocks stay in their bounds.
use Rattle.std.proofs.Common.{◌<◌, ◌≤◌, ◌^◌, ℕ, List, Option, Some, None, sym, subst, arith}
use Rattle.std.specs.Prelude.{MatchOption, option_map}
use Rattle.std.specs.List.{AllByRecursion}
use Rattle.version_vector.specs.declared.interval.Interval.{Interval}
use Rattle.frs_base.specs.declared.version.Uid.{Uid}
use Rattle.win_order.specs.declared.update.Update.{Update}
use Rattle.record_db.specs.declared.command.BookCmd.TheVariants.{RecordLocal, Adopt, Finish, Unstage}
use Rattle.record_db.specs.Lists.{put_any}
use Rattle.record_db.specs.State.{BookState}
use Rattle.record_db.specs.Steps.{Changes, in_set}
use Rattle.record_db.proofs.Lists.{put_all}
use Rattle.folder_core.specs.Sound.{IsInBounds}

-- the clock of an update, if there is one, is below 2^62
abbrev pub HasClock : Option Update → Type 0
HasClock made = MatchOption made (Unit {0}) (λ u. u.clock < 2 ^ 62)

clocks_put : (set : ℕ) (made : Option Update) (records : List Update) → AllByRecursion (λ u. u.clock < 2 ^ 62) records → HasClock made
    → AllByRecursion (λ u. u.clock < 2 ^ 62) (put_any (option_map (in_set set) made) records)
clocks_put set None records clocks has = clocks
clocks_put set (Some m) records clocks has = put_all (λ u. u.clock < 2 ^ 62) (in_set set m) records clocks has

-- a journal record is consumed
pub bounds_recorded : (old new : BookState) (made : Option Update) → IsInBounds old → HasClock made → Changes (RecordLocal old.consumed made) old new → IsInBounds new
bounds_recorded old new made h has c = record {
  begun = let more = c.consumed in let begun = h.begun in omega (arith, more, begun);
  clocks = subst (AllByRecursion (λ u. u.clock < 2 ^ 62)) (sym c.records) (clocks_put old.set made old.records h.clocks has);
}

-- an update is taken
pub bounds_adopted : (old new : BookState) (u : Update) (form : Option (List ℕ)) → IsInBounds old → u.clock < 2 ^ 62 → Changes (Adopt u form) old new → IsInBounds new
bounds_adopted old new u form h has c = record {
  begun = subst (λ n. 9 ≤ n) (sym c.consumed) h.begun;
  clocks = subst (AllByRecursion (λ u. u.clock < 2 ^ 62)) (sym c.records) (clocks_put old.set (Some u) old.records h.clocks has);
}

-- a round is finished
pub bounds_finished : (old new : BookState) (sent : List Interval) → IsInBounds old → Changes (Finish sent) old new → IsInBounds new
bounds_finished old new sent h c = record {
  begun = subst (λ n. 9 ≤ n) (sym c.consumed) h.begun;
  clocks = subst (AllByRecursion (λ u. u.clock < 2 ^ 62)) (sym c.records) h.clocks;
}

-- a staged form goes
pub bounds_unstaged : (old new : BookState) (uid : Uid) → IsInBounds old → Changes (Unstage uid) old new → IsInBounds new
bounds_unstaged old new uid h c = record {
  begun = subst (λ n. 9 ≤ n) (sym c.consumed) h.begun;
  clocks = subst (AllByRecursion (λ u. u.clock < 2 ^ 62)) (sym c.records) h.clocks;
}
