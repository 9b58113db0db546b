-- Negation turns the order round; the infinities are its ends; and `round` with a negative sign is the negated `round`. Assumes nothing.
use mathlib.Core.Path.{◌≡◌, refl, sym, ap, ◌∙◌}
use mathlib.Core.Logic.{inl, inr}
use Prim.Native.Nat.{ℕ, zero, suc, ◌+◌, ◌*◌, ◌^◌}
use native.Mathlib.Omega.{arith}
use mathlib.Core.Bool.{Bool, true, false, not, cond}
use lib.Dec.{T, ltb}
use lib.Ieee.{Float, nan, inf, fin, Format, prec, emax, low, odd, units, round, neg, le}
use lib.Ieee.Fits.{round_is}
use lib.Ieee.Order.{kept, drop}
use lib.Ieee.Positive.{den}
use Rattle.floats.proofs.Parts.{number, plus, minus, rank, here, AtMost}
use Rattle.floats.proofs.Compare.{le_numbers}
use Rattle.floats.proofs.Order.{le→AtMost, AtMost→le}

-- ---- the parts of -x

pub neg_number : (x : Float) → T (number x) → T (number (neg x))
unfolding neg
neg_number nan p = absurd p
neg_number (inf s) p = tt
neg_number (fin s m e) p = tt

neg_rank : (x : Float) → T (number x) → rank (neg x) + rank x ≡ 2
unfolding neg
neg_rank nan p = absurd p
neg_rank (inf true) p = refl
neg_rank (inf false) p = refl
neg_rank (fin s m e) p = refl

pub neg_plus : (x : Float) → plus (neg x) ≡ minus x
unfolding neg
neg_plus nan = refl
neg_plus (inf s) = refl
neg_plus (fin true m e) = refl
neg_plus (fin false m e) = refl

pub neg_minus : (x : Float) → minus (neg x) ≡ plus x
unfolding neg
neg_minus nan = refl
neg_minus (inf s) = refl
neg_minus (fin true m e) = refl
neg_minus (fin false m e) = refl

pub neg_den : (x : Float) → den (neg x) ≡ den x
unfolding neg
neg_den nan = refl
neg_den (inf s) = refl
neg_den (fin s m e) = refl

here_neg : (x y : Float) → here (neg x) (neg y) ≡ here y x
here_neg x y = rw (neg_plus x, neg_minus y, neg_den x, neg_den y) (omega arith)

-- x ≤ y gives -y ≤ -x
pub neg_anti : (x y : Float) → T (le x y) → T (le (neg y) (neg x))
neg_anti x y h =
    let p = (le_numbers x y h).0 in
    let q = (le_numbers x y h).1 in
    let rx = neg_rank x p in
    let ry = neg_rank y q in
    AtMost→le (neg y) (neg x) (neg_number y q) (neg_number x p)
    (elim (le→AtMost x y h) [
      | inl r ↦ inl (omega arith)
      | inr r ↦ inr (omega arith, rw (here_neg y x, here_neg x y) r.1)
    ])

-- ---- the ends of the order

-- -inf ≤ y
pub le_bottom : (y : Float) → T (number y) → T (le (inf true) y)
unfolding le
le_bottom nan p = absurd p
le_bottom (inf true) p = tt
le_bottom (inf false) p = tt
le_bottom (fin s m e) p = tt

-- x ≤ +inf
pub le_top : (x : Float) → T (number x) → T (le x (inf false))
unfolding le
le_top nan p = absurd p
le_top (inf true) p = tt
le_top (inf false) p = tt
le_top (fin s m e) p = tt

-- only +inf is +inf or more
pub top_le : (y : Float) → T (le (inf false) y) → y ≡ inf false
unfolding le
top_le nan h = absurd h
top_le (inf true) h = absurd h
top_le (inf false) h = refl
top_le (fin s m e) h = absurd h

-- only -inf is -inf or less
pub le_bottom_only : (x : Float) → T (le x (inf true)) → x ≡ inf true
unfolding le
le_bottom_only nan h = absurd h
le_bottom_only (inf true) h = refl
le_bottom_only (inf false) h = absurd h
le_bottom_only (fin s m e) h = absurd h

-- ---- `round`, by its sign

-- the sign bit is clear, and x is no NaN
abbrev pub unsigned : Float → Bool
unsigned nan = false
unsigned (inf s) = not s
unsigned (fin s m e) = not s

odd_neg : (d q k l : ℕ) → odd d true q k l ≡ neg (odd d false q k l)
unfolding odd neg
odd_neg d zero k l = refl
odd_neg d (suc q) k l = refl

units_neg : (f : Format) (q k : ℕ) → units f true q k ≡ neg (units f false q k)
unfolding units neg
units_neg f q k = go (ltb (q * 2 ^ k) (2 ^ (low f + suc (emax f))))
  where
    go : (b : Bool) → cond b (odd (suc (prec f)) true q k (low f)) (inf true) ≡ neg (cond b (odd (suc (prec f)) false q k (low f)) (inf false))
    go true = odd_neg (suc (prec f)) q k (low f)
    go false = refl

pub round_neg : (f : Format) (a c : ℕ) → round f true a c ≡ neg (round f false a c)
round_neg f a c =
    round_is f true a c
    ∙ units_neg f (kept (prec f) (a * 2 ^ low f) c) (drop (prec f) (a * 2 ^ low f) c)
    ∙ ap neg (sym (round_is f false a c))

odd_unsigned : (d q k l : ℕ) → T (unsigned (odd d false q k l))
unfolding odd
odd_unsigned d zero k l = tt
odd_unsigned d (suc q) k l = tt

units_unsigned : (f : Format) (q k : ℕ) → T (unsigned (units f false q k))
unfolding units
units_unsigned f q k = go (ltb (q * 2 ^ k) (2 ^ (low f + suc (emax f))))
  where
    go : (b : Bool) → T (unsigned (cond b (odd (suc (prec f)) false q k (low f)) (inf false)))
    go true = odd_unsigned (suc (prec f)) q k (low f)
    go false = tt

pub round_unsigned : (f : Format) (a c : ℕ) → T (unsigned (round f false a c))
round_unsigned f a c = rw (round_is f false a c) (units_unsigned f (kept (prec f) (a * 2 ^ low f) c) (drop (prec f) (a * 2 ^ low f) c))

pub unsigned_number : (x : Float) → T (unsigned x) → T (number x)
unsigned_number nan h = h
unsigned_number (inf s) h = tt
unsigned_number (fin s m e) h = tt

at_most : (x y : Float) → T (unsigned x) → T (unsigned y) → AtMost (neg x) y
unfolding neg
at_most nan y p q = absurd p
at_most (inf true) y p q = absurd p
at_most (inf false) nan p q = absurd q
at_most (inf false) (inf true) p q = absurd q
at_most (inf false) (inf false) p q = inl (omega arith)
at_most (inf false) (fin true n d) p q = absurd q
at_most (inf false) (fin false n d) p q = inl (omega arith)
at_most (fin true m e) y p q = absurd p
at_most (fin false m e) nan p q = absurd q
at_most (fin false m e) (inf true) p q = absurd q
at_most (fin false m e) (inf false) p q = inl (omega arith)
at_most (fin false m e) (fin true n d) p q = absurd q
at_most (fin false m e) (fin false n d) p q = inr (refl, omega arith)

-- -|x| ≤ |y|
pub neg_le_unsigned : (x y : Float) → T (unsigned x) → T (unsigned y) → T (le (neg x) y)
neg_le_unsigned x y p q = AtMost→le (neg x) y (neg_number x (unsigned_number x p)) (unsigned_number y q) (at_most x y p q)
