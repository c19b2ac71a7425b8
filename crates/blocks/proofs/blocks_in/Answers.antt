use Rattle.std.specs.Option.{IfSome, IfNone, ok_or, unwrap_or}
use Rattle.std.specs.Result.{result_ok, result_err}
use Rattle.std.proofs.Common.{None}
use Rattle.refusals.specs.declared.Refusal.TheVariants.{BadBlocks}
use Rattle.std.proofs.lemmas.Result.{err_from_is_err_and}
use mathlib.Core.Path.{◌≡◌, sym, ap, subst, ◌∙◌}
use mathlib.Core.Bool.{true, false}
use mathlib.Core.List.{List}
use Prim.Native.Nat.{ℕ, ◌+◌, ◌*◌, ◌≤◌, ◌<◌}
use native.Mathlib.Omega.{arith}
use lib.Dec.{eqb}
use lib.ListN.{length, drop, length-drop}
use borrow.Author.Tests.{eqb-true, eqb-false}
use Rattle.blocks.specs.Blocks.{term_count, block_start, behind, StartsWhole, IsSplit}
use Rattle.blocks.proofs.Blocks.{Walked, walked_none, walked_more, walked_all, walked-good, bad-many, bad-split, found-bad, found-good, start_none, behind-more}
use Rattle.blocks.proofs.blocks_in.Goals as goal

-- something is left of the file, or nothing
module _ {file rest : List ℕ} {b : ℕ} (w : Walked file b × (rest ≡ behind file b)) where
  more : eqb (length rest) 0 ≡ false → block_start file b < length file
  more e = let l = eqb-false _ _ e in let q = ap length w.1 ∙ length-drop (block_start file b) file in omega (arith, l, q)

  ended : eqb (length rest) 0 ≡ true → length file ≤ block_start file b
  ended e = let l = eqb-true _ _ e in let q = ap length w.1 ∙ length-drop (block_start file b) file in omega (arith, l, q)

pub loop-rest-init : goal.loop-rest-init
loop-rest-init c = (walked_none c.args.file.now, ap (λ (i : ℕ). drop i c.args.file.now) (sym (start_none c.args.file.now)))

pub returns-then-blocks-eq-MOST_BLOCKS : goal.returns-then-blocks-eq-MOST_BLOCKS
returns-then-blocks-eq-MOST_BLOCKS c =
    let i = c.loop-rest.invariant in
    found-bad _ (bad-many _ i.0 (more i (sym c.loop-rest-test.ensures)) (omega arith))

pub returns-in_err-after : goal.returns-in_err-after
returns-in_err-after c =
    let i = c.loop-rest.invariant in
    let e = err_from_is_err_and c.from_residual.result c.from_residual.ensures.1 in
    let n : c.split_block.result ≡ None = c.ok_or.ensures.ok_part ∙ ap result_ok c.in_err-after.was in
    let y = ap (λ r. unwrap_or (result_err r) BadBlocks) (sym c.in_err-after.was ∙ c.ok_or.ensures.value ∙ ap (λ o. ok_or o BadBlocks) n) in
    rw (e.1, e.2, y) (found-bad _ (bad-split _ i.0 (more i (sym c.loop-rest-test.ensures)) (omega (arith, i.0.few)) (subst (λ (s : List ℕ). StartsWhole s → ⊥) i.1 (subst (λ o. IfNone o (StartsWhole c.loop-rest.rest.now → ⊥)) n c.split_block.ensures.none))))

pub loop-rest-preserved : goal.loop-rest-preserved
loop-rest-preserved c =
    let i = c.loop-rest.invariant in
    let s = subst (λ o. IfSome o (λ parts. StartsWhole c.loop-rest.rest.now × IsSplit c.loop-rest.rest.now parts.0.now parts.1.now)) (c.ok_or.ensures.ok_part ∙ ap result_ok c.in_ok-after.was) c.split_block.ensures.some in (
      walked_more _ i.0 (more i (sym c.loop-rest-test.ensures)) (omega (arith, i.0.few)) (subst StartsWhole i.1 s.0),
      s.1.rest ∙ ap (λ (t : List ℕ). drop (2 + 4 * term_count t 0) t) i.1 ∙ behind-more _ _,
    )

pub returns : goal.returns
returns c =
    let i = c.loop-rest.invariant in
    let e = ended i (sym c.loop-rest-test.ensures) in
    found-good _ (walked-good _ i.0 e) (walked_all _ i.0 e)
