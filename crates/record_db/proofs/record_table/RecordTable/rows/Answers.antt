use Rattle.std.proofs.Common.{◌∙◌, ◌+◌, ◌++◌, ◌≡◌, ◌∷◌, [], ap, subst, sym, arith, length, take, None, Some}
use Rattle.std.specs.Prelude.{find, slice_get}
use Rattle.std.specs.Map.{values_of}
use Rattle.std.proofs.lemmas.List.{length-append}
use Rattle.frs_pmap.specs.Entries.{is_above, lent}
use Rattle.record_db.specs.Maps.{uid_cmp}
use Rattle.record_db.proofs.Maps.{IsPlaced, first_placed, in_bounds, next_placed, taken_next, taken_whole}
use Rattle.record_db.proofs.record_table.RecordTable.rows.Goals as goal

pub loop-next-init : goal.loop-next-init
loop-next-init c =
    let none = c.new-rows.ensures.items in
    let items = c.args.self.now.items in
    let is = ap (λ s. s.items) c.self.view_is in
    record {
      rows = none ∙ sym (ap (λ l. take (length l) items) none);
      next = subst (λ n. IsPlaced items n (lent c.first-next.result)) (sym (ap length none))
          (subst (IsPlaced items 0) (sym c.first-next.ensures.first)
          (subst (λ l. IsPlaced l 0 (slice_get c.self.inside.files.entries 0)) is (first_placed c.self.inside.files.entries c.self.invariant.by_file)));
    }

pub loop-next-smaller : goal.loop-next-smaller
loop-next-smaller c =
    let items = c.args.self.now.items in
    let old = c.loop-next.rows.items in
    let at = subst (λ r. IsPlaced items (length old) (lent r)) c.in-Some.is c.loop-next.invariant.next in
    let within = in_bounds items (length old) c.in-Some.entry.1.now at.0 in
    let len : length c.push.new.self.items ≡ length old + 1 = ap length c.in_ok-push.ensures.items ∙ length-append old _ in
    omega (arith, within, len)

pub loop-next-preserved : goal.loop-next-preserved
loop-next-preserved c =
    let items = c.args.self.now.items in
    let es = c.self.inside.files.entries in
    let old = c.loop-next.rows.items in
    let n = length old in
    let u = c.in-Some.entry.1.now in
    let is = ap (λ s. s.items) c.self.view_is in
    let at = subst (λ r. IsPlaced items n (lent r)) c.in-Some.is c.loop-next.invariant.next in
    let there : slice_get (values_of es) n ≡ Some u = ap (λ l. slice_get l n) is ∙ at.0 in
    let added : c.push.new.self.items ≡ old ++ u ∷ [] = c.in_ok-push.ensures.items ∙ ap (λ x. old ++ x ∷ []) c.in_ok-copy.ensures in
    let len : length c.push.new.self.items ≡ n + 1 = ap length added ∙ length-append old (u ∷ []) in
    record {
      rows = added ∙ ap (λ l. l ++ u ∷ []) c.loop-next.invariant.rows ∙ taken_next items n u at.0 ∙ sym (ap (λ m. take m items) len);
      next = subst (λ m. IsPlaced items m (lent c.above-next.result)) (sym len)
          (subst (IsPlaced items (n + 1)) (sym c.above-next.ensures.first)
          (subst (λ k. IsPlaced items (n + 1) (find (is_above uid_cmp k) es)) (sym at.1)
          (subst (λ l. IsPlaced l (n + 1) (find (is_above uid_cmp u.uid) es)) is (next_placed es n u c.self.invariant.by_file c.above-next.ensures.rising there))));
    }

pub returns : goal.returns
returns c =
    let items = c.args.self.now.items in
    let n = length c.loop-next.rows.items in
    let none : slice_get items n ≡ None = subst (λ r. IsPlaced items n (lent r)) c.in_default.is c.loop-next.invariant.next in
    c.loop-next.invariant.rows ∙ taken_whole items n none
