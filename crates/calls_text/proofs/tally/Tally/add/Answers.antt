use Rattle.std.proofs.Common.{◌≡◌, ◌<◌, ℕ, ◌+◌, ◌&&◌, List, [], length, Bool, true, false, cond}
use Rattle.std.proofs.Common.{eqb, get_or, set, get_or-set_same, get_or-set_other, ap, sym, ◌∙◌}
use Rattle.std.proofs.Common.{refl, arith}
use Rattle.std.proofs.lemmas.Bool.{eqb-true, eqb-false}
use Rattle.calls_text.proofs.tally.Tally.add.Goals as goal

abbrev at : List (List ℕ) → ℕ → ℕ → ℕ
at rows w e = get_or (get_or rows w []) e 0

-- a row in which one number is replaced
row : (xs : List ℕ) (e f n : ℕ) (b : Bool) → e < length xs → eqb f e ≡ b
    → get_or (set xs e n) f 0 ≡ cond b n (get_or xs f 0)
row xs e f n true lt is = let same : f ≡ e = eqb-true f e is in ap
    (λ (k : ℕ). get_or (set xs e n) k 0) same ∙ get_or-set_same xs e n 0 lt
row xs e f n false lt is = get_or-set_other xs e f n 0 (eqb-false f e is)

rows : (xs : List (List ℕ)) (w e v f n : ℕ) (a b : Bool) → w < length xs
    → e < length (get_or xs w []) → eqb v w ≡ a → eqb f e ≡ b
    → at (set xs w (set (get_or xs w []) e n)) v f ≡ cond (a && b) n (at xs v f)
rows xs w e v f n true b lt within is other =
    let same : v ≡ w = eqb-true v w is in
    ap (λ (k : ℕ). at (set xs w (set (get_or xs w []) e n)) k f) same
    ∙ ap (λ (r : List ℕ). get_or r f 0) (get_or-set_same xs w (set (get_or xs w []) e n) [] lt)
    ∙ row (get_or xs w []) e f n b within other
    ∙ ap (λ (k : ℕ). cond b n (at xs k f)) (sym same)
rows xs w e v f n false b lt within is other = ap (λ (r : List ℕ). get_or r f 0)
    (get_or-set_other xs w v (set (get_or xs w []) e n) [] (eqb-false v w is))

-- the number of this worker and eventcount is one more than before
counted : (xs : List (List ℕ)) (w e v f x y : ℕ) → w ≡ x → e ≡ y
    → cond (eqb v w && eqb f e) (at xs w e + 1) (at xs v f)
    ≡ cond (eqb v x && eqb f y) (at xs v f + 1) (at xs v f)
counted xs w e v f x y is other =
    by (eqb v w) (eqb f e) refl refl
    ∙ ap (λ (k : ℕ). cond (eqb v k && eqb f e) (at xs v f + 1) (at xs v f)) is
    ∙ ap (λ (k : ℕ). cond (eqb v x && eqb f k) (at xs v f + 1) (at xs v f)) other
  where
    by : (a b : Bool) → eqb v w ≡ a → eqb f e ≡ b
        → cond (a && b) (at xs w e + 1) (at xs v f) ≡ cond (a && b) (at xs v f + 1) (at xs v f)
    by true true p q = ap (λ (k : ℕ). at xs k e + 1) (sym (eqb-true v w p))
        ∙ ap (λ (k : ℕ). at xs v k + 1) (sym (eqb-true f e q))
    by true false p q = refl
    by false b p q = refl

pub returns : goal.returns
returns c =
    let a : length c.args.self.now.counts ≡ 16 = omega arith in
    let b : length (get_or c.args.self.now.counts c.get.result []) ≡ 32 = omega arith in
    let w : c.get.result ≡ c.args.worker = c.get.ensures.value in
    let e : c.get-2.result ≡ c.args.event = c.get-2.ensures.value in
    λ v f _ _.
    rows c.args.self.now.counts c.get.result c.get-2.result v f
    (at c.args.self.now.counts c.get.result c.get-2.result + 1) (eqb v c.get.result)
    (eqb f c.get-2.result) (omega arith) (omega arith) refl refl
    ∙ counted c.args.self.now.counts _ _ v f _ _ w e
