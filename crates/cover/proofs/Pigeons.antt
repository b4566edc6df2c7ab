-- A choice covers pieces that lie far apart only if it has one for each of them.
use Rattle.std.proofs.Common.{ℕ, suc, ◌*◌, ◌<◌, ◌≤◌, List, [], ◌∷◌, length, inl, inr, arith}
use native.Mathlib.Decide.{dec_le}
use Rattle.std.specs.List.{AllByRecursion as Every}
use Rattle.cover.specs.Choices.{Pigeonhole}
use Rattle.cover.specs.Distances.{Distance, Metric, Covers, Spaced}

-- what is left of far-apart pieces without those near one centre: all but one
record Rest {P : Type 0} (dist : Distance P) (e r : ℕ) (cs far : List P) : Type 0 where
  rest : List P
  spaced : Spaced dist e rest
  covered : Covers dist r cs rest
  count : length far ≤ suc (length rest)
  apart : (z : P) → Every (λ y. e ≤ dist z y) far → Every (λ y. e ≤ dist z y) rest

module _ {P : Type 0} {dist : Distance P} (m : Metric dist) (e r : ℕ) (wide : 2 * r < e) where
  -- where c is near x, it is near none that is far from x
  others : (c x : P) (cs ys : List P) → dist c x ≤ r → Every (λ y. e ≤ dist x y) ys → Covers dist r (c ∷ cs) ys
      → Covers dist r cs ys
  others c x cs [] near far cover = tt
  others c x cs (y ∷ ys) near far cover = (
    elim cover.0 [
      | inl h ↦ absurd
          (omega (arith, far.0, m.triangle x c y, m.symmetric x c))
      | inr h ↦ h
    ],
    others c x cs ys near
        far.1 cover.1,
  )

  without : (c : P) (cs far : List P) → Spaced dist e far → Covers dist r (c ∷ cs) far → Rest dist e r cs far
  without c cs
      [] spaced cover = record { rest = []; spaced = tt; covered = tt; count = omega arith; apart = λ z h. tt }
  without c cs (x ∷ xs) spaced cover =
      elim cover.0 [
        | inl h ↦ record {
          rest = xs;
          spaced = spaced.1;
          covered = others c x cs xs h spaced.0
              cover.1;
          count = omega arith;
          apart = λ z h. h.1;
        }
        | inr h ↦
            let w = without c cs xs spaced.1 cover.1 in
            record {
              rest = x ∷ w.rest;
              spaced = (w.apart x spaced.0, w.spaced);
              covered =
                  (h, w.covered);
              count = omega (arith, w.count);
              apart = λ z k. (k.0, w.apart z k.1);
            }
      ]

  one_each : (choice far : List P) → Spaced dist e far → Covers dist r choice far → length far ≤ length choice
  one_each [] [] spaced cover = omega arith
  one_each [] (x ∷ xs) spaced cover = elim cover.0 [ ]
  one_each (c ∷ cs) far spaced cover =
      let w = without c cs far spaced cover in
      omega (arith, w.count, one_each cs w.rest w.spaced w.covered)

pub pigeons : (P : Type 0) → Pigeonhole P
pigeons P dist m e r far choice spaced more cover =
    elim (dec_le e (2 * r))
    [ yes h ↦ h | no h ↦ absurd (omega (arith, one_each m e r (omega (arith, h)) choice far spaced cover)) ]
