use Rattle.std.proofs.Common.{◌≡◌, ◌∙◌, ◌-◌, ◌<◌, sym, ap, subst, List, ℕ, length}
use Rattle.std.specs.Prelude.{IsSome}
use Rattle.vol_state.specs.declared.hints.Link.{Link}
use Rattle.vol_state.specs.Hints.{head_of, last_with}
use Rattle.vol_state.proofs.Chains.{head_some, head_index, threaded_redirected}
use Rattle.vol_state.proofs.hints.Hints.redirect.Goals as goal

-- the newest link is there
index_within : (key at : ℕ) (own links : List Link) → own ≡ links → at ≡ last_with key own → IsSome (head_of key links) → at - 1 < length own
index_within key at own links e is s =
    let P : List Link → Type 0 = λ ls. last_with key ls - 1 < length ls in
    subst (λ n. n - 1 < length own) (sym is) (subst P (sym e) (head_index key links (head_some key links s)))

pub redirect-requires : goal.redirect-requires
redirect-requires c =
    index_within c.args.key c.newest_of-index.result c.self.inside.links.items c.args.self.now.links (ap (λ s. s.links) c.self.view_is) (c.newest_of-index.ensures ∙ c.self.invariant.newest_is c.args.key) c.requires

pub invariant_of-self : goal.invariant_of-self
invariant_of-self c =
    rw c.redirect.ensures (threaded_redirected c.self.inside.newest c.self.inside.links.items (c.newest_of-index.result - 1) c.args.fid
    (index_within c.args.key c.newest_of-index.result c.self.inside.links.items c.args.self.now.links (ap (λ s. s.links) c.self.view_is) (c.newest_of-index.ensures ∙ c.self.invariant.newest_is c.args.key) c.requires)
    c.self.invariant)
