use Rattle.std.proofs.Common.{rules, ◌≡◌, ◌+◌, ◌%◌, subst, ◌++◌, ◌∷◌, [], ◌≤◌, List, ◌^◌, ℕ, false, length, refl, ap, ◌∙◌, arith, length-append}
use Rattle.frs_disk.proofs.Ringing.{fails_at_rose}
use Rattle.frs_journal.specs.Loads.{Loads, LoadsStep}
use Rattle.frs_journal.specs.Rests.{Kept}
use Rattle.frs_journal.specs.Slots.{framed, IsShort}
use Rattle.frs_journal.proofs.Commits.{always_any, commit_crash, kept_leaves, kept_more, once_now}
use Rattle.frs_journal.specs.Gates.{lands}
use Rattle.frs_journal.proofs.Fronts.{length_framed}
use Rattle.frs_journal.proofs.Landing.{found_loads}
use Rattle.frs_journal.proofs.Moving.{commit_stops}
use Rattle.frs_journal.proofs.journalled.Journalled.commit.Goals as goal

-- the record fits a slot
short_of : (p body : List ℕ) (end : ℕ) → body ≡ framed p ++ 0 ∷ [] → end + length body ≤ 2 ^ 32 → IsShort p
short_of p body end is room = omega (arith, ap length is, length-append (framed p) (0 ∷ []), length_framed p, room)

pub returns-in_default-clause-crash : goal.returns-in_default-clause-crash
returns-in_default-clause-crash g c =
    let s = c.self.inside in
    let f = g.D.FrsDisk.states in
    let x = g.M.Machine.command c.prepared.inside.ready in
    let open_is : s.shut ≡ false = search rules in
    let fits = rw (← c.self.view_is, ← c.prepared.view_is) at c.requires.fits in
    let led = g.met.M.Machine.leads c.prepared.inside.ready s.machine fits in
    let n = led.0 in
    let spelt = c.as_slice.ensures.value ∙ c.prepared.invariant.1 in
    rw (← c.self.view_is, ← c.prepared.view_is) (always_any f s.in_b (LoadsStep g.M.Machine.law (g.M.Machine.state s.machine) s.serial x) s.current c.append_record.new.disk s.other s.other
    (commit_crash g.M.Machine.law (g.M.Machine.state s.machine) n x s.in_b s.end s.serial c.as_slice.result.now
    (f s.current) (f c.append_record.new.disk) (f s.other) (f s.other)
    (c.self.invariant.2 open_is) c.prepared.invariant.0
    (short_of (g.M.Machine.law.code x) c.prepared.inside.body.items s.end c.prepared.invariant.1 (search rules))
    led.1 (g.met.M.Machine.lawful.keeps_origin (g.M.Machine.state s.machine) x n led.1) spelt c.in_default.ensures.inside refl))

pub invariant_of-self-2 : goal.invariant_of-self-2
invariant_of-self-2 g c =
    let s = c.self.inside in
    let f = g.D.FrsDisk.states in
    let x = g.M.Machine.command c.prepared.inside.ready in
    let spelt = c.as_slice.ensures.value ∙ c.prepared.invariant.1 in
    let P : ℕ → Type 0 = λ n. Kept g.M.Machine.law (g.M.Machine.state c.take.new.self) s.in_b (s.end + n) ((s.serial + 1) % 2 ^ 64) (f c.append_record.new.disk) (f s.other) in
    let n : length c.as_slice.result.now ≡ c.len.result = search rules in (
      search rules,
      search rules,
      λ open_is.
          subst P n (
          kept_more g.M.Machine.law (g.M.Machine.state s.machine) (g.M.Machine.state c.take.new.self) x s.in_b s.end s.serial c.as_slice.result.now
          (f s.current) (f c.append_record.new.disk) (f s.other)
          (c.self.invariant.2 open_is) c.prepared.invariant.0
          (short_of (g.M.Machine.law.code x) c.prepared.inside.body.items s.end c.prepared.invariant.1 (search rules))
          c.take.ensures (g.met.M.Machine.lawful.keeps_origin (g.M.Machine.state s.machine) x (g.M.Machine.state c.take.new.self) c.take.ensures) spelt c.in-Ok.ensures.done),
    )

pub returns-clause-crash : goal.returns-clause-crash
returns-clause-crash g c =
    let s = c.self.inside in
    let f = g.D.FrsDisk.states in
    let x = g.M.Machine.command c.prepared.inside.ready in
    let open_is : s.shut ≡ false = search rules in
    let fits = rw (← c.self.view_is, ← c.prepared.view_is) at c.requires.fits in
    let led = g.met.M.Machine.leads c.prepared.inside.ready s.machine fits in
    let n = led.0 in
    let spelt = c.as_slice.ensures.value ∙ c.prepared.invariant.1 in
    rw (← c.self.view_is, ← c.prepared.view_is) (always_any f s.in_b (LoadsStep g.M.Machine.law (g.M.Machine.state s.machine) s.serial x) s.current c.append_record.new.disk s.other s.other
    (commit_crash g.M.Machine.law (g.M.Machine.state s.machine) n x s.in_b s.end s.serial c.as_slice.result.now
    (f s.current) (f c.append_record.new.disk) (f s.other) (f s.other)
    (c.self.invariant.2 open_is) c.prepared.invariant.0
    (short_of (g.M.Machine.law.code x) c.prepared.inside.body.items s.end c.prepared.invariant.1 (search rules))
    led.1 (g.met.M.Machine.lawful.keeps_origin (g.M.Machine.state s.machine) x n led.1) spelt c.append_record.ensures.inside refl))

pub returns-clause-done : goal.returns-clause-done
returns-clause-done g c =
    let s = c.self.inside in
    let f = g.D.FrsDisk.states in
    let open_is : s.shut ≡ false = search rules in
    let inv = invariant_of-self-2 g c in
    once_now f s.in_b (Loads g.M.Machine.law (g.M.Machine.state c.take.new.self) ((s.serial + 1) % 2 ^ 64)) c.append_record.new.disk s.other
    (kept_leaves g.M.Machine.law (g.M.Machine.state c.take.new.self) s.in_b _ _ (f c.append_record.new.disk) (f s.other) (inv.2 open_is))

pub returns-in_default-clause-stops : goal.returns-in_default-clause-stops
returns-in_default-clause-stops g c =
    let s = c.self.inside in
    let open_is : s.shut ≡ false = search rules in
    rw (← c.self.view_is) (commit_stops g.M.Machine.law g.D.FrsDisk.states (g.M.Machine.state s.machine) s.in_b s.end s.serial s.current c.append_record.new.disk s.other
    (g.D.FrsDisk.alarm s.current) (g.D.FrsDisk.alarm c.append_record.new.disk) (c.self.invariant.2 open_is) c.in_default.ensures.early)

pub returns-in_default-clause-fault : goal.returns-in_default-clause-fault
returns-in_default-clause-fault g c =
    let s = c.self.inside in
    let h = c.in_default.ensures.alarm in
    rw (← c.self.view_is) (c.faults.ensures, fails_at_rose h.0 (g.D.FrsDisk.alarm s.current) (g.D.FrsDisk.alarm c.append_record.new.disk) h.2)

pub returns-in_default-clause-could : goal.returns-in_default-clause-could
returns-in_default-clause-could g c =
    let s = c.self.inside in
    let fits = rw (← c.self.view_is, ← c.prepared.view_is) at c.requires.fits in
    rw (← c.self.view_is, ← c.prepared.view_is) (g.met.M.Machine.leads c.prepared.inside.ready s.machine fits)

pub returns-clause-could : goal.returns-clause-could
returns-clause-could g c =
    let s = c.self.inside in
    let fits = rw (← c.self.view_is, ← c.prepared.view_is) at c.requires.fits in
    rw (← c.self.view_is, ← c.prepared.view_is) (g.met.M.Machine.leads c.prepared.inside.ready s.machine fits)

pub returns-in_default-clause-word : goal.returns-in_default-clause-word
returns-in_default-clause-word g c =
    let s = c.self.inside in
    let f = g.D.FrsDisk.states in
    let law = g.M.Machine.law in
    let x = g.M.Machine.command c.prepared.inside.ready in
    let open_is : s.shut ≡ false = search rules in
    let fits = rw (← c.self.view_is, ← c.prepared.view_is) at c.requires.fits in
    let led = g.met.M.Machine.leads c.prepared.inside.ready s.machine fits in
    rw (← c.self.view_is, ← c.prepared.view_is) (λ quiet exact.
    let w = c.in_default.ensures.word quiet exact in (
      w.0,
      w.1,
      w.2,
      found_loads law (g.M.Machine.state s.machine) led.0 x s.in_b s.end s.serial c.as_slice.result.now (lands w.0.before w.0.image)
          (f s.current) (f c.append_record.new.disk) (f s.other) (c.self.invariant.2 open_is) c.prepared.invariant.0
          (short_of (law.code x) c.prepared.inside.body.items s.end c.prepared.invariant.1 (search rules))
          led.1 (g.met.M.Machine.lawful.keeps_origin (g.M.Machine.state s.machine) x led.0 led.1) (c.as_slice.ensures.value ∙ c.prepared.invariant.1) w.3,
    ))
