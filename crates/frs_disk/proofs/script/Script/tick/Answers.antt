use Rattle.std.proofs.Common.{rules, ◌≡◌, ℕ, Bool, Some, None, ap, ◌∙◌, Option, arith}
use Rattle.std.specs.Prelude.{is_some}
use Rattle.frs_disk.specs.Alarms.{Rings, raised}
use Rattle.frs_disk.specs.Memory.{alarm_of, armed_of}
use Rattle.frs_disk.specs.declared.image.Image.{Image}
use Rattle.frs_disk.specs.declared.script.ArmedCall.{ArmedCall}
use Rattle.frs_disk.specs.declared.script.Script.{Script}
use Rattle.frs_disk.proofs.script.Script.tick.Goals as goal

-- the armed call was reached
rings : (old : Script) (armed : ArmedCall) (image : Option Image) (stopped : Bool) (faults : ℕ) → old.armed ≡ Some armed → armed.before ≡ 0 → armed.image ≡ image
    → stopped ≡ is_some armed.image → faults ≡ raised old.faults
    → (r : Rings (alarm_of old) (alarm_of (record { armed = None; stopped = stopped; faults = faults; was_armed = old.was_armed }))) × (r.image ≡ image)
rings old armed image stopped faults is first left stops count = (
  record {
    image = armed.image;
    reached = ap armed_of is ∙ ap (λ (n : ℕ). Some (record { before = n; image = armed.image })) first;
    now = ap (λ (b : Bool). record (alarm_of old) { armed = None; stopped = b; faults = faults }) stops
        ∙ ap (λ (n : ℕ). record (alarm_of old) { armed = None; stopped = is_some armed.image; faults = n }) count;
  },
  left,
)

pub returns-in-None-clause-reached : goal.returns-in-None-clause-reached
returns-in-None-clause-reached c =
    let first : c.in-Some.armed.before ≡ 0 = omega arith in
    rings c.args.self.now c.in-Some.armed None c.is_some-self.result c.saturating_add-self.result (search rules) first c.in-None.is (search rules) (search rules)

pub returns-in-Some-image-clause-reached : goal.returns-in-Some-image-clause-reached
returns-in-Some-image-clause-reached c =
    let first : c.in-Some.armed.before ≡ 0 = omega arith in
    rings c.args.self.now c.in-Some.armed (Some c.in-Some-image.image) c.is_some-self.result c.saturating_add-self.result (search rules) first c.in-Some-image.is (search rules) (search rules)
