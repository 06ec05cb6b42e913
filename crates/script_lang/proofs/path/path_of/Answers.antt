use Rattle.std.proofs.Common.{◌≡◌, ◌∙◌, false, length, lit<, Some, sym, ap, arith}
use Rattle.std.proofs.lemmas.Iterator.Consumers.{YieldsList-at, YieldsList-end, YieldsList-turn}
use Rattle.std.proofs.lemmas.Iterator.Splits.{YieldsList-from_str_split}
use Rattle.script_lang.specs.Grammar.{is_component}
use Rattle.script_lang.proofs.Paths.{no_path, one_is_none, part_count, parts_of, path_is, too_many}
use Rattle.script_lang.proofs.path.path_of.Goals as goal

pub returns-then-slashes-ge-COMPONENTS : goal.returns-then-slashes-ge-COMPONENTS
returns-then-slashes-ge-COMPONENTS c =
    no_path c.args.word.now (too_many (parts_of c.args.word.now) (omega (arith, part_count c.args.word.now c.slash_count-slashes.result c.slash_count-slashes.ensures)))

pub returns-then-not-is_component : goal.returns-then-not-is_component
returns-then-not-is_component c =
    let road = YieldsList-at c.into_iter-part-iterator.ensures.into_iter_gives
    (YieldsList-from_str_split 47 c.args.word.now (lit< tt) c.split-part-items.ensures.text c.split-part-items.ensures.has_more c.split-part-items.ensures.pattern) in
    let (within, is) = YieldsList-turn road c.loop-part.yielded _ c.loop-part.yielded_by _ _ c.in-Some.part c.in-Some.is c.next.ensures.steps in
    let fails : is_component c.in-Some.part.now ≡ false = sym c.is_component.ensures ∙ c.if-not-is_component.true in
    no_path c.args.word.now (one_is_none (parts_of c.args.word.now) (length c.loop-part.yielded) c.in-Some.part.now within (ap is_component (sym is) ∙ fails))

pub returns : goal.returns
returns c =
    let road = YieldsList-at c.into_iter-part-iterator.ensures.into_iter_gives
    (YieldsList-from_str_split 47 c.args.word.now (lit< tt) c.split-part-items.ensures.text c.split-part-items.ensures.has_more c.split-part-items.ensures.pattern) in
    let (all, count) = YieldsList-end road c.loop-part.yielded _ c.loop-part.yielded_by _ _ c.in-None.is c.next.ensures.steps in
    let inv = c.loop-part.invariant in
    path_is c.args.word.now c.loop-part.names.items c.slash_count-slashes.result (inv.names ∙ all) c.slash_count-slashes.ensures c.if-slashes-ge-COMPONENTS.false inv.valid ∙ ap Some (sym c.of.ensures)
