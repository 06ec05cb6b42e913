-- What a round keeps.
use Rattle.std.proofs.Common.{◌≡◌, ◌⊎◌, ℕ, Bool, true, false, not, ◌&&◌, List, [], ◌∷◌, refl, sym, ◌∙◌, subst, inl, inr, Option, Some, None}
use Rattle.frs_base.specs.Options.{In}
use Rattle.win_order.specs.declared.update.Update.{Update}
use Rattle.record_db.specs.Records.{Covered, IsHeld, IsHeldOrBeaten, IsRecord}
use Rattle.record_db.proofs.Keys.{not_below}
use Rattle.record_db.proofs.Sets.{in_after, in_append, in_before, plus_new}
use Rattle.record_db.proofs.Best.{covered_held, held_is}
use Rattle.world_model.specs.World.{Member, World, IsRecordOf}
use Rattle.world_model.specs.Events.{Step, Adopt, SendUpdate, adopted_by}
use Rattle.world_model.specs.Invariant.{SentIsKnown, VersionsAreMade}
use Rattle.world_model.specs.Runs.{CoversAlike, Grows}
use Rattle.world_model.specs.Rounds.{Fetches, IsWanted, Pages, Polls, Round, RoundIsTrue, Treats, TreatsAll}
use Rattle.world_model.specs.Laws.{FinishedRoundsAreHeld, RoundsStayTrue}
use Rattle.world_model.proofs.Changing.{at_same}
use Rattle.world_model.proofs.Facts.{true_false}
use Rattle.world_model.proofs.Growth.{grows_refl, grows_trans, stays, step_grows}
use Rattle.world_model.proofs.Versions.{step_made, step_sent}
use Rattle.world_model.proofs.Puts.{no_smaller, record_stayed, record_stays}

-- ---- held or beaten

-- what is held or beaten is so from then on
pub held_stays : (w new : World) (d : ℕ) (u : Update) → Grows w new → IsHeldOrBeaten (IsRecordOf w d) u → IsHeldOrBeaten (IsRecordOf new d) u
held_stays w new d u g (r, k, s, below) =
    let (q, k', s', below') = covered_held new.all (new.at d).known r (g.all r k.among.0, g.known d r.gvsn k.among.1) in
    (q, k', s' ∙ s, no_smaller q r u below' below)

-- what isn't better is held or beaten
pub not_better : (w : World) (d : ℕ) (u : Update) → (IsWanted w d u → ⊥) → IsHeldOrBeaten (IsRecordOf w d) u
not_better w d u n = go (held_is w.all (w.at d).known u.uid)
  where
    go : (held : Option Update) × IsHeld (Covered w.all (w.at d).known) u.uid held → IsHeldOrBeaten (IsRecordOf w d) u
    go (None, h) = absurd (n (None, h, tt))
    go (Some r, h) = (r, h.0, h.1, not_below r u h.1 (λ b. n (Some r, h, b)))

-- what is adopted is held or beaten
pub adopted_is_held : (w : World) (d : ℕ) (u : Update) (new : World) → VersionsAreMade w → SentIsKnown w → Step w d (Adopt u) new → IsHeldOrBeaten (IsRecordOf new d) u
adopted_is_held w d u new h k s =
    subst (λ (z : World). IsHeldOrBeaten (IsRecordOf z d) u) (sym s.2)
    (covered_held w.all _ u ((k.updates _ s.0.1).0, subst (λ (x : Member). x.known u.gvsn ≡ true) (sym (at_same w.at d (adopted_by u (w.at d)))) (plus_new (w.at d).known u.gvsn)))

-- ---- a round

-- it stays true whatever happens
pub round_stays : (w new : World) (puller server : ℕ) (r : Round) → VersionsAreMade w → Grows w new → RoundIsTrue w puller server r → RoundIsTrue new puller server r
round_stays w new puller server r h g t =
    let s = stays w new r.versions (λ v k. h.sent _ v t.sent k) g in record {
      sent = g.vectors _ t.sent;
      each = λ u k. elim (t.each u (record_stayed w new r.versions s u k)) [ inl a ↦ inl a | inr b ↦ elim b [ inl a ↦ inr (inl a) | inr a ↦ inr (inr (held_stays w new puller u g a)) ] ];
      listed = λ u a. record_stays w new r.versions s u (t.listed u a);
    }

-- it begins true
pub poll_begins : (w : World) (puller server : ℕ) (new : World) (r : Round) → Polls w puller server new r → RoundIsTrue new puller server r
poll_begins w puller server new r (s, is) = subst (λ (z : World). RoundIsTrue z puller server r) (sym s) (subst (RoundIsTrue _ puller server) (sym is) (record {
  sent = inl refl;
  each = λ u k. go u k ((w.at puller).known u.gvsn) refl;
  listed = λ u a. absurd a;
}))
  where
    and : (a b : Bool) → a ≡ true → b ≡ false → (a && not b) ≡ true
    and true false p q = refl
    and true true p q = absurd (true_false true refl q)
    and false b p q = absurd (true_false false p refl)

    go : (u : Update) → IsRecordOf w server u → (b : Bool) → (w.at puller).known u.gvsn ≡ b
        → (((w.at server).known u.gvsn && not ((w.at puller).known u.gvsn)) ≡ true) ⊎ (In u [] ⊎ IsHeldOrBeaten (IsRecordOf w puller) u)
    go u k true e = inr (inr (covered_held w.all (w.at puller).known u (k.among.0, e)))
    go u k false e = inl (and ((w.at server).known u.gvsn) ((w.at puller).known u.gvsn) k.among.1 e)

-- ---- pages

treat_grows : (w : World) (puller server : ℕ) (u : Update) (listed : List Update) (new : World) (more : List Update) → Treats w puller server u listed new more → Grows w new
treat_grows w puller server u listed new more (inl (n, same, _)) = subst (Grows w) (sym same) (grows_refl w)
treat_grows w puller server u listed new more (inr (inl (b, f, same, _))) = subst (Grows w) (sym same) (grows_refl w)
treat_grows w puller server u listed new more (inr (inr (f, mid, s, a, _))) = grows_trans w mid new (step_grows w server (SendUpdate u) mid s) (step_grows mid puller (Adopt u) new a)

-- a page that is treated only grows the world
pub treats_grow : (w : World) (puller server : ℕ) (us listed : List Update) (new : World) (more : List Update) → TreatsAll w puller server us listed new more → Grows w new
treats_grow w puller server [] listed new more (same, _) = subst (Grows w) (sym same) (grows_refl w)
treats_grow w puller server (u ∷ us) listed new more (mid, between, t, rest) = grows_trans w mid new (treat_grows w puller server u listed mid between t) (treats_grow mid puller server us between new more rest)

-- what is listed stays listed
treat_kept : (w : World) (puller server : ℕ) (u : Update) (listed : List Update) (new : World) (more : List Update) → Treats w puller server u listed new more → (v : Update) → In v listed → In v more
treat_kept w puller server u listed new more (inl (n, same, is)) v a = subst (In v) (sym is) a
treat_kept w puller server u listed new more (inr (inl (b, f, same, is))) v a = subst (In v) (sym is) (in_before v listed (u ∷ []) a)
treat_kept w puller server u listed new more (inr (inr (f, mid, s, b, is))) v a = subst (In v) (sym is) a

treats_kept : (w : World) (puller server : ℕ) (us listed : List Update) (new : World) (more : List Update) → TreatsAll w puller server us listed new more → (v : Update) → In v listed → In v more
treats_kept w puller server [] listed new more (same, is) v a = subst (In v) (sym is) a
treats_kept w puller server (u ∷ us) listed new more (mid, between, t, rest) v a = treats_kept mid puller server us between new more rest v (treat_kept w puller server u listed mid between t v a)

-- each update of the page is listed, or held or beaten
treat_does : (w : World) (puller server : ℕ) (u : Update) (listed : List Update) (new : World) (more : List Update) → VersionsAreMade w → SentIsKnown w → Treats w puller server u listed new more
    → In u more ⊎ IsHeldOrBeaten (IsRecordOf new puller) u
treat_does w puller server u listed new more h k (inl (n, same, is)) = inr (subst (λ (z : World). IsHeldOrBeaten (IsRecordOf z puller) u) (sym same) (not_better w puller u n))
treat_does w puller server u listed new more h k (inr (inl (b, f, same, is))) = inl (subst (In u) (sym is) (in_after u listed (u ∷ []) (inl refl)))
treat_does w puller server u listed new more h k (inr (inr (f, mid, s, a, is))) =
    inr (adopted_is_held mid puller u new (step_made w server (SendUpdate u) mid h k s) (step_sent w server (SendUpdate u) mid k s) a)

-- the invariant's first two parts meanwhile
treat_made : (w : World) (puller server : ℕ) (u : Update) (listed : List Update) (new : World) (more : List Update) → VersionsAreMade w → SentIsKnown w → Treats w puller server u listed new more → VersionsAreMade new × SentIsKnown new
treat_made w puller server u listed new more h k (inl (n, same, _)) = subst (λ z. VersionsAreMade z × SentIsKnown z) (sym same) (h, k)
treat_made w puller server u listed new more h k (inr (inl (b, f, same, _))) = subst (λ z. VersionsAreMade z × SentIsKnown z) (sym same) (h, k)
treat_made w puller server u listed new more h k (inr (inr (f, mid, s, a, _))) =
    let h' = step_made w server (SendUpdate u) mid h k s in let k' = step_sent w server (SendUpdate u) mid k s in (step_made mid puller (Adopt u) new h' k' a, step_sent mid puller (Adopt u) new k' a)

treats_do : (w : World) (puller server : ℕ) (us listed : List Update) (new : World) (more : List Update) → VersionsAreMade w → SentIsKnown w → TreatsAll w puller server us listed new more
    → (v : Update) → In v us → In v more ⊎ IsHeldOrBeaten (IsRecordOf new puller) v
treats_do w puller server [] listed new more h k t v a = absurd a
treats_do w puller server (u ∷ us) listed new more h k (mid, between, t, rest) v (inl same) = subst (λ z. In z more ⊎ IsHeldOrBeaten (IsRecordOf new puller) z) (sym same) (elim (treat_does w puller server u listed mid between h k t) [
  | inl a ↦ inl (treats_kept mid puller server us between new more rest u a)
  | inr a ↦ inr (held_stays mid new puller u (treats_grow mid puller server us between new more rest) a)
])
treats_do w puller server (u ∷ us) listed new more h k (mid, between, t, rest) v (inr a) =
    let (h', k') = treat_made w puller server u listed mid between h k t in treats_do mid puller server us between new more h' k' rest v a

-- only updates of the page are listed
treats_list : (w : World) (puller server : ℕ) (us listed : List Update) (new : World) (more : List Update) → TreatsAll w puller server us listed new more → (v : Update) → In v more → In v listed ⊎ In v us
treats_list w puller server [] listed new more (same, is) v a = inl (subst (In v) is a)
treats_list w puller server (u ∷ us) listed new more (mid, between, t, rest) v a = elim (treats_list mid puller server us between new more rest v a) [ inr b ↦ inr (inr b) | inl b ↦ go t b ]
  where
    go : Treats w puller server u listed mid between → In v between → In v listed ⊎ In v (u ∷ us)
    go (inl (n, same, is)) b = inl (subst (In v) is b)
    go (inr (inl (c, f, same, is))) b = elim (in_append v listed (u ∷ []) (subst (In v) is b)) [ inl x ↦ inl x | inr (inl e) ↦ inr (inl e) | inr (inr x) ↦ absurd x ]
    go (inr (inr (f, m2, s, c, is))) b = inl (subst (In v) is b)

-- a page keeps it true
pub page_keeps : (w : World) (puller server : ℕ) (r : Round) (new : World) (after : Round) → VersionsAreMade w → SentIsKnown w → RoundIsTrue w puller server r → Pages w puller server r new after → RoundIsTrue new puller server after
page_keeps w puller server r new after h k t (page, is, treated, same) =
    let g = treats_grow w puller server page r.listed new after.listed treated in
    let s = stays w new r.versions (λ v q. h.sent _ v t.sent q) g in record {
      sent = subst (λ z. In (record { from = server; versions = z }) new.vectors) (sym same) (g.vectors _ t.sent);
      each = λ u q. go u (record_stayed w new r.versions s u (subst (λ z. IsRecord new.all z u) same q));
      listed = λ u a. subst (λ z. IsRecord new.all z u) (sym same) (record_stays w new r.versions s u
          (elim (treats_list w puller server page r.listed new after.listed treated u a) [ inl b ↦ t.listed u b | inr b ↦ (is.winners u b).0 ]));
    }
  where
    go : (u : Update) → IsRecord w.all r.versions u → (after.rest u.gvsn ≡ true) ⊎ (In u after.listed ⊎ IsHeldOrBeaten (IsRecordOf new puller) u)
    go u q = elim (t.each u q) [
      | inl asked ↦ elim (is.first u q asked) [ inr later ↦ inl later | inl here ↦ inr (treats_do w puller server page r.listed new after.listed h k treated u here) ]
      | inr (inl a) ↦ inr (inl (treats_kept w puller server page r.listed new after.listed treated u a))
      | inr (inr a) ↦ inr (inr (held_stays w new puller u (treats_grow w puller server page r.listed new after.listed treated) a))
    ]

-- nothing is asked for or listed
pub finished_held : FinishedRoundsAreHeld
finished_held w puller server r t (done, none) u k = elim (t.each u k) [
  | inl asked ↦ absurd (true_false _ asked (done u k))
  | inr (inl a) ↦ absurd (subst (In u) none a)
  | inr (inr a) ↦ a
]

-- a fetch keeps it true
pub fetch_keeps : (w : World) (puller server : ℕ) (r : Round) (new : World) (after : Round) → VersionsAreMade w → SentIsKnown w → RoundIsTrue w puller server r → Fetches w puller server r new after → RoundIsTrue new puller server after
fetch_keeps w puller server r new after h k t (u, more, list, is, did) = subst (RoundIsTrue new puller server) (sym is) (record {
  sent = g.vectors _ t.sent;
  each = λ v q. go v (record_stayed w new r.versions s v q);
  listed = λ v a. record_stays w new r.versions s v (t.listed v (subst (In v) (sym list) (inr a)));
})
  where
    g : Grows w new
    g = elim did [
      | inl e ↦ subst (Grows w) (sym e.1) (grows_refl w)
      | inr e ↦ grows_trans w e.1 new (step_grows w server (SendUpdate e.0) e.1 e.4) (step_grows e.1 puller (Adopt e.0) new e.5)
    ]

    s : CoversAlike w new r.versions
    s = stays w new r.versions (λ v q. h.sent _ v t.sent q) g

    first : IsHeldOrBeaten (IsRecordOf new puller) u
    first = elim did [
      | inl e ↦ subst (λ (z : World). IsHeldOrBeaten (IsRecordOf z puller) u) (sym e.1) (not_better w puller u e.0)
      | inr (v, mid, best, uid, s1, s2) ↦
          let in_s = t.listed u (subst (In u) (sym list) (inl refl)) in
          let below = not_below v u uid (λ b. best.unbeaten u (in_s.among.0, k.vectors _ u.gvsn t.sent in_s.among.1) b) in
          let (q, kk, same, less) = adopted_is_held mid puller v new (step_made w server (SendUpdate v) mid h k s1) (step_sent w server (SendUpdate v) mid k s1) s2 in
          (q, kk, same ∙ uid, no_smaller q v u less below)
    ]

    go : (v : Update) → IsRecord w.all r.versions v → (r.rest v.gvsn ≡ true) ⊎ (In v more ⊎ IsHeldOrBeaten (IsRecordOf new puller) v)
    go v q = elim (t.each v q) [
      | inl asked ↦ inl asked
      | inr (inl a) ↦ elim (subst (In v) list a) [ inl same ↦ inr (inr (subst (IsHeldOrBeaten (IsRecordOf new puller)) (sym same) first)) | inr b ↦ inr (inl b) ]
      | inr (inr a) ↦ inr (inr (held_stays w new puller v g a))
    ]

-- all of it
pub rounds_stay : RoundsStayTrue
rounds_stay w h puller server = record {
  begins = λ new r p. poll_begins w puller server new r p;
  goes_on = λ r new after t g. elim g [
    | inl p ↦ page_keeps w puller server r new after h.versions h.sent t p
    | inr f ↦ fetch_keeps w puller server r new after h.versions h.sent t f
  ];
  stays = λ r d e new t s. round_stays w new puller server r h.versions (step_grows w d e new s) t;
}
