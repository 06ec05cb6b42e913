use Rattle.std.proofs.Common.{◌≡◌, ◌∙◌, ◌+◌, ◌<◌, List, Some, length, map, slice_get, option_map, sym, ap, subst, arith, rules}
use Rattle.std.proofs.lemmas.Bool.Decides.{nat_tests}
use Rattle.std.proofs.lemmas.List.{length-map}
use Rattle.std.proofs.lemmas.Option.{slice_get-get_or, slice_get-map}
use Rattle.win_order.specs.declared.update.Update.{Update}
use Rattle.name_rules.specs.Shown.{AreFlagged, HasChildren, Reaches}
use Rattle.name_rules.proofs.Descending.{Descending, ends, enters, passes, starts}
use Rattle.name_rules.proofs.Lists.{got_in}
use Rattle.name_rules.proofs.descent.descend.Goals as goal
use Rattle.name_rules.proofs.descent.descend.Goals.{else-is_directory, else-loop-next-test, then-is_directory+in_ok-reach-2, then-loop-next-test+in_default}

pub loop-next-init : goal.loop-next-init
loop-next-init c =
    let names : List Update = map (λ u. u.now) c.args.named.now in
    let as_long = length-map c.args.named.now (λ u. u.now) in
    let e = c.in_ok-reach.ensures in
    starts names c.in_ok-reached.reached.flags.items c.in_ok-reached.reached.queue.items c.in_ok-reached.reached.above.items
    c.reach.new.self.flags.items c.reach.new.self.queue.items c.reach.new.self.above.items c.in_ok-reached.ensures.none.0 c.in_ok-reached.ensures.none.1
    (subst (λ n. AreFlagged n c.reach.new.self.flags.items c.reach.new.self.queue.items) (sym as_long) e.flagged)
    (subst (λ p. HasChildren names p c.reach.new.self.flags.items) c.root_uid.ensures e.children)
    (subst (λ p. Reaches names p c.in_ok-reached.reached.flags.items c.in_ok-reached.reached.queue.items c.reach.new.self.flags.items c.reach.new.self.queue.items) c.root_uid.ensures e.more)
    e.above

pub bounds-named-at : goal.bounds-named-at
bounds-named-at c =
    let within = c.in-Some.ensures.lookup.0 in
    let is = c.in-Some.ensures.lookup.1 in
    let lt : c.loop-next.next < length c.deref.result.now = grind (arith, nat_tests) in
    let place : slice_get c.deref.result.now c.loop-next.next ≡ Some c.in-Some.at.now = slice_get-get_or c.deref.result.now c.loop-next.next c.in-Some.at.now lt ∙ ap Some (sym is) in
    let there = got_in c.loop-next.reached.queue.items c.loop-next.next c.in-Some.at.now (ap (λ q. slice_get q c.loop-next.next) (sym c.deref.ensures.value) ∙ place) in
    let as_long = length-map c.args.named.now (λ u. u.now) in
    let l = c.loop-next.invariant.flagged.within c.in-Some.at.now there in
    omega arith

pub offset_bounds-named-at : goal.offset_bounds-named-at
offset_bounds-named-at c = let bound : c.in-Some.at.now < length c.args.named.now = bounds-named-at c in search rules

pub loop-next-preserved : goal.loop-next-preserved
loop-next-preserved c = elim c.if-is_directory.branch [
  | then-is_directory+in_ok-reach-2 w ↦
      let e = w.in_ok-reach-2.ensures in
      let now = w.reach-then-is_directory.new.self in
      subst (λ r. Descending names (c.loop-next.next + 1) r.flags.items r.queue.items r.above.items) (sym w.reached-is)
      (enters names c.loop-next.next c.loop-next.reached.flags.items c.loop-next.reached.queue.items c.loop-next.reached.above.items c.in-Some.at.now c.index-named-at.result.now
      now.flags.items now.queue.items now.above.items
      c.loop-next.invariant place here (sym c.is_directory.ensures ∙ w.if-is_directory.true)
      (subst (λ n. AreFlagged n now.flags.items now.queue.items) (sym as_long) e.flagged) e.children e.more e.above)
  | else-is_directory w ↦
      subst (λ r. Descending names (c.loop-next.next + 1) r.flags.items r.queue.items r.above.items) (sym w.reached-is)
      (passes names c.loop-next.next c.loop-next.reached.flags.items c.loop-next.reached.queue.items c.loop-next.reached.above.items c.in-Some.at.now c.index-named-at.result.now
      c.loop-next.invariant place here (sym c.is_directory.ensures ∙ w.if-is_directory.false))
]
  where
    names : List Update
    names = map (λ u. u.now) c.args.named.now

    as_long : length names ≡ length c.args.named.now
    as_long = length-map c.args.named.now (λ u. u.now)

    place : slice_get c.loop-next.reached.queue.items c.loop-next.next ≡ Some c.in-Some.at.now
    place =
        let within = c.in-Some.ensures.lookup.0 in
        let is = c.in-Some.ensures.lookup.1 in
        let lt : c.loop-next.next < length c.deref.result.now = grind (arith, nat_tests) in
        ap (λ q. slice_get q c.loop-next.next) (sym c.deref.ensures.value)
        ∙ slice_get-get_or c.deref.result.now c.loop-next.next c.in-Some.at.now lt ∙ ap Some (sym is)

    at_most : c.in-Some.at.now < length c.args.named.now
    at_most =
        let there = got_in c.loop-next.reached.queue.items c.loop-next.next c.in-Some.at.now place in
        let l = c.loop-next.invariant.flagged.within c.in-Some.at.now there in
        let e = as_long in
        omega arith

    here : slice_get names c.in-Some.at.now ≡ Some c.index-named-at.result.now
    here =
        slice_get-map (λ u. u.now) c.args.named.now c.in-Some.at.now
        ∙ ap (option_map (λ u. u.now)) (slice_get-get_or c.args.named.now c.in-Some.at.now c.index-named-at.result at_most)
        ∙ ap (λ b. Some b.now) (sym c.index-named-at.is)

pub returns : goal.returns
returns c = elim c.loop-next-test.branch [
  | else-loop-next-test w ↦
      ends names c.loop-next.next c.loop-next.reached.flags.items c.loop-next.reached.queue.items c.loop-next.reached.above.items c.loop-next.invariant
      (let e = length-map c.args.named.now (λ u. u.now) in omega (arith, w.loop-next-test.false, c.loop-next.invariant.flagged.left))
  | then-loop-next-test+in_default w ↦
      ends names c.loop-next.next c.loop-next.reached.flags.items c.loop-next.reached.queue.items c.loop-next.reached.above.items c.loop-next.invariant
      (let e = ap length w.deref.ensures.value in omega (arith, w.in_default.ensures.lookup))
]
  where
    names : List Update
    names = map (λ u. u.now) c.args.named.now
