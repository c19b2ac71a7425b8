-- Laws of ℤ that lib.IntN lacks: the product distributes and associates; a sum of four regroups.
use mathlib.Core.Path.{◌≡◌, sym, ◌∙◌, ap}
use Prim.Native.Nat.{ℕ, zero, suc}
use lib.IntN.{ℤ, pos, negsuc, suc_ℤ, pred_ℤ, neg_ℤ, ◌+ℤ◌, ◌*ℤ◌, ◌-ℤ◌, +ℤ_assoc, +ℤ_comm, +ℤ_idl, +ℤ_idr, +ℤ_invr, +ℤ_invl, suc_ℤ-+ℤ, pred_ℤ-+ℤ, suc_ℤ-*ℤ, pred_ℤ-*ℤ, zero-*ℤ, *ℤ_comm}

-- (a + b) + c ≡ (a + c) + b
pub swap-right : (a b c : ℤ) → (a +ℤ b) +ℤ c ≡ (a +ℤ c) +ℤ b
swap-right a b c = +ℤ_assoc a b c ∙ ap (λ (x : ℤ). a +ℤ x) (+ℤ_comm b c) ∙ sym (+ℤ_assoc a c b)

-- (a + b) + (c + d) ≡ (a + c) + (b + d)
pub regroup : (a b c d : ℤ) → (a +ℤ b) +ℤ (c +ℤ d) ≡ (a +ℤ c) +ℤ (b +ℤ d)
regroup a b c d =
    sym (+ℤ_assoc (a +ℤ b) c d) ∙ ap (λ (x : ℤ). x +ℤ d) (swap-right a b c) ∙ +ℤ_assoc (a +ℤ c) b d

distrib-zero : (b c : ℤ) → (pos zero +ℤ b) *ℤ c ≡ pos zero *ℤ c +ℤ b *ℤ c
distrib-zero b c =
    ap (λ (x : ℤ). x *ℤ c) (+ℤ_idl b) ∙ sym (ap (λ (x : ℤ). x +ℤ b *ℤ c) (zero-*ℤ c) ∙ +ℤ_idl (b *ℤ c))

distrib-suc : (a b c : ℤ) → (a +ℤ b) *ℤ c ≡ a *ℤ c +ℤ b *ℤ c → (suc_ℤ a +ℤ b) *ℤ c ≡ suc_ℤ a *ℤ c +ℤ b *ℤ c
distrib-suc a b c h =
    ap (λ (x : ℤ). x *ℤ c) (suc_ℤ-+ℤ a b) ∙ suc_ℤ-*ℤ (a +ℤ b) c ∙ ap (λ (x : ℤ). x +ℤ c) h
    ∙ swap-right (a *ℤ c) (b *ℤ c) c ∙ ap (λ (x : ℤ). x +ℤ b *ℤ c) (sym (suc_ℤ-*ℤ a c))

distrib-pred : (a b c : ℤ) → (a +ℤ b) *ℤ c ≡ a *ℤ c +ℤ b *ℤ c → (pred_ℤ a +ℤ b) *ℤ c ≡ pred_ℤ a *ℤ c +ℤ b *ℤ c
distrib-pred a b c h =
    ap (λ (x : ℤ). x *ℤ c) (pred_ℤ-+ℤ a b) ∙ pred_ℤ-*ℤ (a +ℤ b) c ∙ ap (λ (x : ℤ). x -ℤ c) h
    ∙ swap-right (a *ℤ c) (b *ℤ c) (neg_ℤ c) ∙ ap (λ (x : ℤ). x +ℤ b *ℤ c) (sym (pred_ℤ-*ℤ a c))

pub distrib-r : (a b c : ℤ) → (a +ℤ b) *ℤ c ≡ a *ℤ c +ℤ b *ℤ c
distrib-r (pos zero) b c = distrib-zero b c
distrib-r (pos (suc n)) b c = distrib-suc (pos n) b c (distrib-r (pos n) b c)
distrib-r (negsuc zero) b c = distrib-pred (pos zero) b c (distrib-zero b c)
distrib-r (negsuc (suc n)) b c = distrib-pred (negsuc n) b c (distrib-r (negsuc n) b c)

pub distrib-l : (a b c : ℤ) → a *ℤ (b +ℤ c) ≡ a *ℤ b +ℤ a *ℤ c
distrib-l a b c = *ℤ_comm a (b +ℤ c) ∙ distrib-r b c a ∙ ap (λ (x : ℤ). x +ℤ c *ℤ a) (*ℤ_comm b a) ∙ ap (λ (x : ℤ). a *ℤ b +ℤ x) (*ℤ_comm c a)

neg_unique : (a b : ℤ) → a +ℤ b ≡ pos zero → b ≡ neg_ℤ a
neg_unique a b e =
    sym (+ℤ_idl b) ∙ ap (λ (x : ℤ). x +ℤ b) (sym (+ℤ_invl a)) ∙ +ℤ_assoc (neg_ℤ a) a b ∙ ap (λ (x : ℤ). neg_ℤ a +ℤ x) e ∙ +ℤ_idr (neg_ℤ a)

pub neg-*ℤ : (a b : ℤ) → neg_ℤ a *ℤ b ≡ neg_ℤ (a *ℤ b)
neg-*ℤ a b = neg_unique (a *ℤ b) (neg_ℤ a *ℤ b) (sym (distrib-r a (neg_ℤ a) b) ∙ ap (λ (x : ℤ). x *ℤ b) (+ℤ_invr a) ∙ zero-*ℤ b)

assoc-pos : (n : ℕ) (b c : ℤ) → (pos n *ℤ b) *ℤ c ≡ pos n *ℤ (b *ℤ c)
assoc-pos zero b c = ap (λ (x : ℤ). x *ℤ c) (zero-*ℤ b) ∙ zero-*ℤ c ∙ sym (zero-*ℤ (b *ℤ c))
assoc-pos (suc n) b c =
    ap (λ (x : ℤ). x *ℤ c) (suc_ℤ-*ℤ (pos n) b) ∙ distrib-r (pos n *ℤ b) b c
    ∙ ap (λ (x : ℤ). x +ℤ b *ℤ c) (assoc-pos n b c) ∙ sym (suc_ℤ-*ℤ (pos n) (b *ℤ c))

pub *ℤ-assoc : (a b c : ℤ) → (a *ℤ b) *ℤ c ≡ a *ℤ (b *ℤ c)
*ℤ-assoc (pos n) b c = assoc-pos n b c
*ℤ-assoc (negsuc n) b c =
    ap (λ (x : ℤ). x *ℤ c) (neg-*ℤ (pos (suc n)) b) ∙ neg-*ℤ (pos (suc n) *ℤ b) c
    ∙ ap neg_ℤ (assoc-pos (suc n) b c) ∙ sym (neg-*ℤ (pos (suc n)) (b *ℤ c))
