-- Frames added and removed at the end.
use Rattle.std.proofs.Common.{◌≡◌, ℕ, ◌+◌, ◌-◌, ◌≤◌, ◌<◌, true, List, [], ◌∷◌, ◌++◌, length, append_assoc, arith, sym, ◌∙◌, ap, refl, zero, suc, add-zero, subst, take, drop, get_or, take_all, le_refl, eqb-true, Bool, false, ◌==◌, ◌&&◌, leb-true, map, zero-add, nat_le}
use Rattle.std.specs.List.{list_all}
use Rattle.ec_machine.specs.declared.command.Command.{Command}
use Rattle.ec_machine.specs.declared.remaining.Frame.{Frame}
use Rattle.std.specs.Global.{Vec}
use Rattle.ec_machine.specs.declared.command.Command.TheVariants.{Repeat, rolls-Repeat}
use Rattle.ec_machine.specs.declared.command.Command.TheOpen as layer
use Rattle.ec_machine.specs.declared.command.Command.TheFolds.{fold-roll-Command}
use Rattle.ec_machine.specs.Limits.{is_sound_one, sound_step}
use Rattle.ec_machine.specs.Unrolled.{unroll, unroll_command, repeated, written_step}
use Rattle.ec_machine.specs.kept.Left.{frame_commands, left_of, FrameFits, FramesFit}

pub append_none : (xs : List Command) → xs ++ [] ≡ xs
append_none [] = refl
append_none (x ∷ xs) = ap (λ ys. x ∷ ys) (append_none xs)

pub left_push : (fs : List Frame) (f : Frame) → left_of (fs ++ f ∷ []) ≡ frame_commands f
    ++ left_of fs
unfolding left_of
left_push [] f = sym (append_none (frame_commands f))
left_push (g ∷ fs) f = ap (λ xs. xs ++ frame_commands g) (left_push fs f) ∙ append_assoc (frame_commands f) (left_of fs) (frame_commands g)

pub fit_push : (i : ℕ) (fs : List Frame) (f : Frame) → FramesFit i fs → FrameFits (i + length fs) f → FramesFit i (fs ++ f ∷ [])
fit_push i [] f fit one = (subst (λ n. FrameFits n f) (add-zero i) one, tt)
fit_push i (g ∷ fs) f fit one =
    (fit.0, fit_push (i + 1) fs f fit.1 (let e : i + 1 + length fs ≡ i + length (g ∷ fs) = omega arith in rw e one))

pub fit_pop : (i : ℕ) (fs : List Frame) (f : Frame) → FramesFit i (fs ++ f ∷ []) → FramesFit i fs × FrameFits (i + length fs) f
fit_pop i [] f fit = (tt, subst (λ n. FrameFits n f) (sym (add-zero i)) fit.0)
fit_pop i (g ∷ fs) f fit =
    let more = fit_pop (i + 1) fs f fit.1 in
    let e : i + 1 + length fs ≡ i + length (g ∷ fs) = omega arith in
    ((fit.0, more.0), rw (← e) more.1)

pub again : (n : ℕ) (xs : List Command) → 0 < n → repeated n xs ≡ xs ++ repeated (n - 1) xs
unfolding repeated
again zero xs some = absurd (omega arith)
again (suc n) xs some = let e : suc n - 1 ≡ n = omega arith in rw e

pub no_times : (xs : List Command) (n : ℕ) → n ≤ 0 → repeated n xs ≡ []
unfolding repeated
no_times xs zero few = refl
no_times xs (suc n) few = absurd (omega arith)

pub written_none : (cs : List Command) → (length cs == 0) ≡ true → unroll cs ≡ []
written_none [] is = refl
written_none (c ∷ cs) is = absurd (omega (arith, eqb-true _ _ is))

pub some_left : (cs : List Command) → (length cs == 0) ≡ false → 0 < length cs
some_left [] is = cc
some_left (c ∷ cs) is = omega arith

-- a block begun once more
pub begun_again : (fs : List Frame) (f : Frame) (rest : List Command) (n : ℕ) → (length rest == 0) ≡ true → 0 < n → left_of (fs ++ record { rest = f.block; block = f.block; times = n - 1 } ∷ []) ≡ (unroll rest ++ repeated n (unroll f.block.now)) ++ left_of fs
begun_again fs f rest n none some =
    left_push fs _ ∙ ap (λ xs. xs ++ left_of fs) (sym (again n (unroll f.block.now) some)) ∙ ap (λ xs. (xs ++ repeated n (unroll f.block.now)) ++ left_of fs) (sym (written_none rest none))

pub block_done : (fs : List Frame) (rest block : List Command) (n : ℕ) → (length rest == 0) ≡ true → n ≤ 0 → left_of fs ≡ (unroll rest ++ repeated n (unroll block)) ++ left_of fs
block_done fs rest block n none few = rw (written_none rest none, no_times (unroll block) n few) refl

pub split_first : (bs : List Command) (x : Command) → 1 ≤ length bs → x ≡ get_or bs 0 x → unroll bs ≡ unroll_command x ++ unroll (take (length bs - 1) (drop 1 bs))
split_first [] x some is = absurd (omega arith)
split_first (b ∷ bs) x some is =
    let e : length (b ∷ bs) - 1 ≡ length bs = omega arith in
    rw (e, take_all (length bs) bs (le_refl (length bs))) (ap (λ y. unroll_command y ++ unroll bs) (sym is))

pub entered : (n : ℕ) (xs w ys old mid out : List Command) → 0 < n → xs ≡ w ++ ys → mid ≡ (ys ++ repeated (n - 1) xs) ++ old → w ++ mid ≡ out → repeated n xs ++ old ≡ out
entered n xs w ys old mid out some split is to =
    ap (λ zs. zs ++ old) (again n xs some ∙ ap (λ zs. zs ++ repeated (n - 1) xs) split ∙ append_assoc w ys (repeated (n - 1) xs))
    ∙ append_assoc w (ys ++ repeated (n - 1) xs) old ∙ ap (λ zs. w ++ zs) (sym is) ∙ to

pub written_repeat : (n : ℕ) (block : Vec Command) → unroll_command (Repeat n block) ≡ repeated n (unroll block.items)
written_repeat n block = ap unroll_command (sym (rolls-Repeat n block)) ∙ fold-roll-Command (List Command) written_step (layer.Repeat n block)

pub sound_repeat : (n : ℕ) (block : Vec Command) → is_sound_one (Repeat n block) ≡ (nat_le 1 n && nat_le n 1000000 && nat_le 1 (length (map is_sound_one block.items)) && list_all (λ b. b) (map is_sound_one block.items))
sound_repeat n block = ap is_sound_one (sym (rolls-Repeat n block)) ∙ fold-roll-Command Bool sound_step (layer.Repeat n block)

pub first_true : (a b : Bool) → (a && b) ≡ true → a ≡ true
first_true true b is = refl
first_true false b is = is

pub is_done_once : (n : ℕ) (block : Vec Command) → is_sound_one (Repeat n block) ≡ true → 0 < n
is_done_once n block sound =
    let all = sym (sound_repeat n block) ∙ sound in
    let once : 1 ≤ n = leb-true 1 n (first_true _ _ (first_true _ _ (first_true _ _ all))) in
    omega (arith, once)

pub left_none : (fs : List Frame) → length fs ≡ 0 → left_of fs ≡ []
unfolding left_of
left_none [] is = refl
left_none (f ∷ fs) is = absurd (omega arith)

pub left_at_none : (fs : List Frame) → (0 < length fs → false ≡ true) → left_of fs ≡ []
unfolding left_of
left_at_none [] none = refl
left_at_none (f ∷ fs) none = let h : false ≡ true = none (omega arith) in cc

pub popped_left : (old new : List Frame) (f : Frame) → old ≡ new ++ f ∷ [] → left_of old ≡ frame_commands f ++ left_of new
popped_left old new f is = ap left_of is ∙ left_push new f

pub popped_fit : (old new : List Frame) (f : Frame) → old ≡ new ++ f ∷ [] → FramesFit 0 old → FramesFit 0 new × FrameFits (length new) f
popped_fit old new f is fit =
    let both = fit_pop 0 new f (subst (FramesFit 0) is fit) in
    (both.0, subst (λ n. FrameFits n f) (zero-add (length new)) both.1)

pub written_at_start : (cs : List Command) → (unroll cs ++ repeated 0 (unroll cs)) ++ left_of [] ≡ unroll cs
unfolding left_of repeated
written_at_start cs = append_none (unroll cs ++ []) ∙ append_none (unroll cs)

pub started : (cs left : List Command) (fs : List Frame) → left ≡ (unroll cs ++ repeated 0 (unroll cs)) ++ left_of fs → fs ≡ [] → left ≡ unroll cs
started cs left fs is none = is ∙ ap (λ gs. (unroll cs ++ repeated 0 (unroll cs)) ++ left_of gs) none ∙ written_at_start cs
