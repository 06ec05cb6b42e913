use Rattle.std.proofs.Common.{◌≡◌, ◌∙◌, ◌+◌, ◌++◌, [], ◌∷◌, Some, None, ap, sym, arith, length, map, take}
use Rattle.std.specs.Prelude.{filter, option_map, slice_get}
use Rattle.std.proofs.lemmas.List.{length-append}
use Rattle.frs_pmap.specs.Entries.{is_from}
use Rattle.frs_pmap.proofs.Ranges.{find_first, key_none, next_key, taken_all, taken_key}
use Rattle.frs_pmap.proofs.map.Pmap.range.Goals as goal
use Rattle.frs_pmap.proofs.map.Pmap.range.Goals.{else-loop-next-test, then-loop-next-test+in_default}

pub loop-next-init : goal.loop-next-init
loop-next-init g c =
    let p = λ (e : g.row.K.Denot × g.row.V.Denot). is_from g.K.Ord.cmp c.args.low.now e in
    let fs = filter p c.args.self.now in
    let none = c.new-keys.ensures.items in
    record {
      keys = none ∙ sym (ap (λ l. map (λ (e : g.row.K.Denot × g.row.V.Denot). e.0) (take (length l) fs)) none);
      next = c.key_beyond-next.ensures.key ∙ ap (option_map (λ (e : g.row.K.Denot × g.row.V.Denot). e.0)) (find_first p c.args.self.now ∙ sym (ap (λ l. slice_get fs (length l)) none));
      within = omega (arith, ap length none);
    }

pub loop-next-preserved : goal.loop-next-preserved
loop-next-preserved g c =
    let fs = filter (λ (e : g.row.K.Denot × g.row.V.Denot). is_from g.K.Ord.cmp c.args.low.now e) c.args.self.now in
    let old = c.loop-next.keys.items in
    let key = c.in-Some.key in
    let got : Some key ≡ option_map (λ (e : g.row.K.Denot × g.row.V.Denot). e.0) (slice_get fs (length old)) = sym c.in-Some.is ∙ c.loop-next.invariant.next in
    let len : length c.push.new.self.items ≡ length old + 1 = ap length c.in_ok-push.ensures.items ∙ length-append old (key ∷ []) in
    record {
      keys = c.in_ok-push.ensures.items ∙ ap (λ l. l ++ key ∷ []) c.loop-next.invariant.keys ∙ taken_key fs (length old) key got
          ∙ sym (ap (λ n. map (λ (e : g.row.K.Denot × g.row.V.Denot). e.0) (take n fs)) len);
      next = c.key_beyond-next-in-loop-next.ensures.key ∙ ap (option_map (λ (e : g.row.K.Denot × g.row.V.Denot). e.0))
          (next_key g.met.K.Ord.total c.args.low.now c.args.self.now (length old) key c.key_beyond-next-in-loop-next.ensures.rising got ∙ sym (ap (slice_get fs) len));
      within = omega arith;
    }

pub returns : goal.returns
returns g c =
    let fs = filter (λ (e : g.row.K.Denot × g.row.V.Denot). is_from g.K.Ord.cmp c.args.low.now e) c.args.self.now in
    let n = length c.loop-next.keys.items in
    elim c.loop-next-test.branch [
      | else-loop-next-test w ↦
          let all : n ≡ c.args.limit = omega arith in
          c.loop-next.invariant.keys ∙ ap (λ m. map (λ (e : g.row.K.Denot × g.row.V.Denot). e.0) (take m fs)) all
      | then-loop-next-test+in_default w ↦
          let none : slice_get fs n ≡ None = key_none (slice_get fs n) (sym w.in_default.is ∙ c.loop-next.invariant.next) in
          c.loop-next.invariant.keys ∙ ap (map (λ (e : g.row.K.Denot × g.row.V.Denot). e.0)) (taken_all fs n c.args.limit none c.loop-next.invariant.within)
    ]
