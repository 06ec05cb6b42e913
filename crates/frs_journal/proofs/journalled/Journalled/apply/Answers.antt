use Rattle.std.proofs.Common.{rules, ◌≡◌, ◌≤◌, ◌+◌, ◌^◌, List, ℕ, false, length, ap, inl, arith}
use Rattle.std.proofs.lemmas.Result.{IfErr-weaker, MatchResult-weaker}
use Rattle.frs_disk.specs.Alarms.{Alarm}
use Rattle.frs_journal.specs.Loads.{Loads, LoadsStep}
use Rattle.frs_journal.specs.Slots.{slot_a, slot_b}
use Rattle.frs_journal.proofs.Commits.{kept_leaves, now_leaves_map}
use Rattle.frs_journal.proofs.Moving.{armed_from, commit_fault, moments_from, no_device, refused_crash, refused_fault, slot_a_same, slot_b_same, steps_from, stops_from}
use Rattle.frs_journal.proofs.journalled.Journalled.apply.Goals as goal

pub returns-in-Err-clause-crash : goal.returns-in-Err-clause-crash
returns-in-Err-clause-crash g c = λ open_is.
    let s = c.self.inside in
    let f = g.D.FrsDisk.states in
    let law = g.M.Machine.law in
    let open' : s.shut ≡ false = search rules in
    let P : List ℕ → List ℕ → Type 0 = λ a b. Loads law (g.M.Machine.state s.machine) s.serial (slot_a s.in_b a b) (slot_b s.in_b a b) in
    let Q : List ℕ → List ℕ → Type 0 = λ a b. LoadsStep law (g.M.Machine.state s.machine) s.serial c.args.cmd (slot_a s.in_b a b) (slot_b s.in_b a b) in
    let now = kept_leaves law (g.M.Machine.state s.machine) s.in_b s.end s.serial (f s.current) (f s.other) (c.self.invariant.2 open') in
    rw (← c.self.view_is) (refused_crash f (LoadsStep law (g.M.Machine.state s.machine) s.serial c.args.cmd) s.in_b c.prepare.new.self.in_b s.current c.prepare.new.self.current s.other c.prepare.new.self.other
    (search rules) (search rules) (search rules)
    (now_leaves_map P Q (f s.current) (f s.other) (λ a b h. inl h) now))

pub returns-in-Err-clause-fault : goal.returns-in-Err-clause-fault
returns-in-Err-clause-fault g c = refused_fault c.in-Err.fault _ _ _ _ c.in-Err.ensures.refused

pub returns-in-Err-clause-shut : goal.returns-in-Err-clause-shut
returns-in-Err-clause-shut g c = λ device. absurd (no_device c.in-Err.fault _ _ c.in-Err.ensures.refused device)

pub returns-in-Err-clause-stops : goal.returns-in-Err-clause-stops
returns-in-Err-clause-stops g c = λ device. absurd (no_device c.in-Err.fault _ _ c.in-Err.ensures.refused device)

pub returns-in-Err-clause-could : goal.returns-in-Err-clause-could
returns-in-Err-clause-could g c = λ device. absurd (no_device c.in-Err.fault _ _ c.in-Err.ensures.refused device)

pub returns-in-Ok-clause-crash : goal.returns-in-Ok-clause-crash
returns-in-Ok-clause-crash g c = λ open_is.
    let f = g.D.FrsDisk.states in
    let law = g.M.Machine.law in
    let st = g.M.Machine.state in
    let old = c.args.self.now in
    let mid = c.prepare.new.self in
    let e = c.prepare.ensures in
    let ready = c.in-Ok.ensures.ready in
    moments_from (LoadsStep law (st old.machine) old.serial c.args.cmd) (LoadsStep law (st mid.machine) mid.serial (g.M.Machine.command c.in-Ok.prepared.ready))
    (f (slot_a old.in_b old.current old.other)) (f (slot_a mid.in_b mid.current mid.other)) _ (f (slot_b old.in_b old.current old.other)) (f (slot_b mid.in_b mid.current mid.other)) _
    (λ x y h. steps_from law (st old.machine) (st mid.machine) old.serial mid.serial c.args.cmd (g.M.Machine.command c.in-Ok.prepared.ready) x y e.machine e.same.serial ready.0 h)
    (slot_a_same f old.in_b mid.in_b old.current mid.current old.other mid.other e.same.in_b e.states e.same.other)
    (slot_b_same f old.in_b mid.in_b old.current mid.current old.other mid.other e.same.in_b e.states e.same.other)
    c.commit.ensures.crash

pub returns-in-Ok-clause-fault : goal.returns-in-Ok-clause-fault
returns-in-Ok-clause-fault g c =
    let old = c.args.self.now in
    let e = c.prepare.ensures in
    let n : ℕ = old.end + length (g.M.Machine.law.code c.args.cmd) + 5 in
    let fits : old.end + length (g.M.Machine.law.code c.args.cmd) + 5 ≤ 2 ^ 32 = omega (arith, c.in-Ok.ensures.room, c.in-Ok.ensures.ready.2, e.same.end) in
    IfErr-weaker c.commit.result _ _
    (λ fault h. commit_fault fault old.shut n (g.D.FrsDisk.alarm old.current).faults (g.D.FrsDisk.alarm c.prepare.new.self.current).faults (g.D.FrsDisk.alarm c.commit.new.self.current).faults (ap (λ (x : Alarm). x.faults) e.alarm) fits h)
    c.commit.ensures.fault

pub returns-in-Ok-clause-stops : goal.returns-in-Ok-clause-stops
returns-in-Ok-clause-stops g c =
    let f = g.D.FrsDisk.states in
    let law = g.M.Machine.law in
    let st = g.M.Machine.state in
    let old = c.args.self.now in
    let mid = c.prepare.new.self in
    let new = c.commit.new.self in
    let e = c.prepare.ensures in
    MatchResult-weaker c.commit.result c.commit.ensures.stops (λ _ _. tt)
    (λ _ h device. stops_from law (st old.machine) (st mid.machine) old.serial mid.serial
    (f (slot_a old.in_b old.current old.other)) (f (slot_a mid.in_b mid.current mid.other)) (f (slot_a new.in_b new.current new.other))
    (f (slot_b old.in_b old.current old.other)) (f (slot_b mid.in_b mid.current mid.other)) (f (slot_b new.in_b new.current new.other))
    (g.D.FrsDisk.alarm old.current) (g.D.FrsDisk.alarm mid.current) (g.D.FrsDisk.alarm new.current)
    e.machine e.same.serial
    (slot_a_same f old.in_b mid.in_b old.current mid.current old.other mid.other e.same.in_b e.states e.same.other)
    (slot_b_same f old.in_b mid.in_b old.current mid.current old.other mid.other e.same.in_b e.states e.same.other) e.alarm h)

pub returns-in-Err-clause-word : goal.returns-in-Err-clause-word
returns-in-Err-clause-word g c = λ device. absurd (no_device c.in-Err.fault _ _ c.in-Err.ensures.refused device)

pub returns-in-Ok-clause-word : goal.returns-in-Ok-clause-word
returns-in-Ok-clause-word g c =
    let st = g.M.Machine.state in
    let old = c.args.self.now in
    let mid = c.prepare.new.self in
    let e = c.prepare.ensures in
    MatchResult-weaker c.commit.result c.commit.ensures.word (λ _ _. tt)
    (λ _ h device. armed_from g.M.Machine.law g.D.FrsDisk.states c.commit.new.self (g.D.FrsDisk.alarm old.current) (g.D.FrsDisk.alarm mid.current) (st old.machine) (st mid.machine) old.serial mid.serial
    c.args.cmd (g.M.Machine.command c.in-Ok.prepared.ready) e.alarm e.machine e.same.serial c.in-Ok.ensures.ready.0 h)
