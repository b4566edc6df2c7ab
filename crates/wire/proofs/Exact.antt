-- What reading answers is exactly what stands there.
use Rattle.std.proofs.Common.{◌≡◌, ℕ, ◌<◌, ◌≤◌, Bool, true, false, cond, eqb, List, ◌++◌, length, get_or, drop, Ok, Err, Result, sym, refl, ap, ◌∙◌, subst, inr, ⊎_elim, arith, length-append, length-drop}
use Rattle.std.proofs.lemmas.List.{take_at, take-append-drop, length-take-le, drop_more}
use Rattle.fault.specs.declared.Fault.{Fault}
use Rattle.command.specs.declared.Command.{Command}
use Rattle.command.specs.declared.verb.Verb.{Verb}
use Rattle.command.specs.declared.verb.Verb.TheVariants.{Settings, Radius, Open, Hull, Joinery, Day, Pick}
use Rattle.std.proofs.lemmas.Bool.Decides.{nat_tests}
use Rattle.command.specs.Verbs.{letter, width}
use Rattle.command.specs.Commands.{bytes_of, size_of, verb_of, Carried}
use Rattle.command.proofs.Laws.{one_reading, size_is_length}
use Rattle.wire.specs.Wire.{room_for, if_room, with_front, Stands, Reads, Answers, Copied}

-- the width by the letter
width_by : ℕ → ℕ
width_by b = cond (eqb b 0x53) 10 (cond (eqb b 0x48) 37 (cond (eqb b 0x4A) 13 (cond (eqb b 0x4F) 1 (cond (eqb b 0x50) 1 5))))

width_by_lem : (v : Verb) → width_by (letter v) ≡ width v
unfolding width_by
width_by_lem Settings = refl
width_by_lem Radius = refl
width_by_lem Open = refl
width_by_lem Hull = refl
width_by_lem Joinery = refl
width_by_lem Day = refl
width_by_lem Pick = refl

same_width : (v w : Verb) → letter v ≡ letter w → width v ≡ width w
same_width v w e = sym (width_by_lem v) ∙ ap width_by e ∙ width_by_lem w

-- the bytes of a command, and what comes after them
stands_first : (xs : List ℕ) (at : ℕ) (c : Command) (n : ℕ) → Stands xs at c n → drop at xs ≡ bytes_of c ++ drop n (drop at xs)
stands_first xs at c n h = sym (take-append-drop n (drop at xs)) ∙ ap (λ ys. ys ++ drop n (drop at xs)) h.1

stands_size : (xs : List ℕ) (at : ℕ) (c : Command) (n : ℕ) → Carried c → Stands xs at c n → n ≡ size_of c
stands_size xs at c n f h =
    let long : n ≤ length (drop at xs) = omega (arith, length-drop at xs, h.0) in
    sym (length-take-le n (drop at xs) long) ∙ ap length h.1 ∙ size_is_length c f

stands_letter : (xs : List ℕ) (at : ℕ) (c : Command) (n : ℕ) → Carried c → Stands xs at c n → (at < length xs) × (letter (verb_of c) ≡ get_or xs at 0)
stands_letter xs at c n f h =
    let e = ap length (stands_first xs at c n h) in
    let l = length-append (bytes_of c) (drop n (drop at xs)) in
    let m = length-drop at xs in
    let here : at < length xs = omega arith in
    (here, ap (λ ys. get_or ys 0 0) (sym (stands_first xs at c n h) ∙ drop_more xs at 0 here))

pub answers : (xs : List ℕ) (at : ℕ) (r : Result (Command × ℕ) Fault) → Reads xs at r → Answers xs at r
answers xs at (Ok r) h c n f s =
    let same : r.0 ≡ c = one_reading r.0 c (drop r.1 (drop at xs)) (drop n (drop at xs)) h.0 f
    (sym (stands_first xs at r.0 r.1 h.2) ∙ stands_first xs at c n s) in
    let many : r.1 ≡ n = h.1 ∙ ap size_of same ∙ sym (stands_size xs at c n f s) in
    ap (λ x. Ok (x, r.1)) same ∙ ap (λ m. Ok (c, m)) many
answers xs at (Err fault) h c n f s =
    let first = stands_letter xs at c n f s in
    let size = stands_size xs at c n f s in
    let no : ⊥ = ⊎_elim
    (λ u. u.1.1 (verb_of c) first.1)
    (λ u. ⊎_elim
    (λ none. omega (arith, none, first.0))
    (λ w. omega (arith, w.3, same_width w.0 (verb_of c) (w.2 ∙ sym first.1), size, s.0))
    u.1)
    h in
    absurd no

enough : (c : Command) (xs : List ℕ) → room_for c xs ≡ true → size_of c ≤ length xs
enough c xs e = grind (arith, nat_tests)

too_few : (c : Command) (xs : List ℕ) → room_for c xs ≡ false → length xs < size_of c
too_few c xs e = grind (arith, nat_tests)

front_stands : (c : Command) (was : List ℕ) → Carried c → Stands (with_front c was) 0 c (size_of c)
front_stands c was f =
    let size = size_is_length c f in
    let l = length-append (bytes_of c) (drop (size_of c) was) in
    (omega arith, take_at (bytes_of c) (drop (size_of c) was) (size_of c) size)

-- what is written where there is room reads back
back_if : (b : Bool) (c : Command) (was is : List ℕ) (n : ℕ) (w : Result ℕ Fault) (r : Result (Command × ℕ) Fault) → Carried c
    → w ≡ Ok n → w ≡ if_room b (size_of c) → is ≡ cond b (with_front c was) was → Answers is 0 r → r ≡ if_room b (c, size_of c)
back_if true c was is n w r f ok answer list reads =
    reads c (size_of c) f (subst (λ xs. Stands xs 0 c (size_of c)) (sym list) (front_stands c was f))
back_if false c was is n w r f ok answer list reads = let z : ◌≡◌ {A = ℕ} 0 1 = cc in let no : ⊥ = omega arith in absurd no

pub reads_back : (c : Command) (was is : List ℕ) (n : ℕ) (w : Result ℕ Fault) (r : Result (Command × ℕ) Fault) → Carried c
    → w ≡ Ok n → w ≡ if_room (room_for c was) (size_of c) → is ≡ cond (room_for c was) (with_front c was) was → Answers is 0 r
    → r ≡ if_room (room_for c was) (c, size_of c)
reads_back c was is n w r f ok answer list reads = back_if (room_for c was) c was is n w r f ok answer list reads

-- what is read and then written is what stands there
copied_if : (b : Bool) (xs : List ℕ) (at : ℕ) (c : Command) (was is : List ℕ) (w : Result ℕ Fault) → room_for c was ≡ b
    → Stands xs at c (size_of c) → w ≡ if_room b (size_of c) → is ≡ cond b (with_front c was) was → Copied xs at was is w
copied_if true xs at c was is w e s answer list =
    subst (λ v. Copied xs at was is v) (sym answer)
    (s.0, enough c was e, list ∙ ap (λ ys. ys ++ drop (size_of c) was) (sym s.1))
copied_if false xs at c was is w e s answer list =
    subst (λ v. Copied xs at was is v) (sym answer) (list, inr (refl, (c, s, too_few c was e)))

pub copied : (xs : List ℕ) (at n : ℕ) (c : Command) (was is : List ℕ) (w : Result ℕ Fault) → Reads xs at (Ok (c, n))
    → w ≡ if_room (room_for c was) (size_of c) → is ≡ cond (room_for c was) (with_front c was) was → Copied xs at was is w
copied xs at n c was is w h answer list =
    copied_if (room_for c was) xs at c was is w refl (subst (λ m. Stands xs at c m) h.1 h.2) answer list
