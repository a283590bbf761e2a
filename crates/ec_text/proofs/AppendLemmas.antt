-- Writes, one after another.
use Rattle.std.proofs.Common.{◌≡◌, ℕ, ◌+◌, ◌-◌, ◌≤◌, ◌<◌, List, ◌++◌, length, take, drop, Option, None, Some, sym, ap, ◌∙◌, arith, append_assoc, length-drop, length-take, subst}
use Rattle.std.proofs.lemmas.List.{length-append, length-take-le, take-append-drop, take-take, take_all}
use Rattle.std.proofs.Math.Seq.{take-append-add}
use Rattle.std.specs.Io.KnownBytes.{Appends, Keeps}
use Rattle.ec_text.specs.Puts.{AppendsPrefix}

pub appends_more : (a b c : Option (List ℕ)) (x y : List ℕ) → Appends a b x → Appends b c y → Appends a c (x ++ y)
appends_more None b c x y p q = tt
appends_more (Some xs) None c x y p q = absurd p
appends_more (Some xs) (Some ys) None x y p q = absurd q
appends_more (Some xs) (Some ys) (Some zs) x y p q = q ∙ ap (λ (r : List ℕ). r ++ y) p ∙ append_assoc xs x y

pub prefix_from : (a c : Option (List ℕ)) (prefix rest bs : List ℕ) → Appends a c prefix → bs ≡ prefix ++ rest → 0 < length rest → AppendsPrefix a c bs
prefix_from None c prefix rest bs p e some = tt
prefix_from (Some xs) None prefix rest bs p e some = absurd p
prefix_from (Some xs) (Some ys) prefix rest bs p e some = (prefix, rest, e, p, some)

pub keeps_after : (a b c : Option (List ℕ)) (x : List ℕ) → Appends a b x → Keeps b c → Appends a c x
keeps_after None b c x p k = tt
keeps_after (Some xs) None c x p k = absurd p
keeps_after (Some xs) (Some ys) None x p k = absurd k
keeps_after (Some xs) (Some ys) (Some zs) x p k = k ∙ p

-- the prefix that is written so far, and the next bytes of the rest
pub next_front : (bs : List ℕ) (i n : ℕ) → i ≤ length bs → take i bs ++ take n (take (length bs - i) (drop i bs)) ≡ take (i + n) bs
next_front bs i n within =
    let e : take (length bs - i) (drop i bs) ≡ drop i bs = take_all _ _ (omega (arith, length-drop i bs)) in
    let len : length (take i bs) ≡ i = omega (arith, length-take i bs) in
    ap (λ (r : List ℕ). take i bs ++ take n r) e
    ∙ sym (take-append-add (take i bs) (drop i bs) n)
    ∙ ap (λ (k : ℕ). take (k + n) (take i bs ++ drop i bs)) len
    ∙ ap (take (i + n)) (take-append-drop i bs)

-- what one more write leaves
pub wrote_more : (a b c : Option (List ℕ)) (bs : List ℕ) (i n : ℕ) → i ≤ length bs → Appends a b (take i bs) → Appends b c (take n (take (length bs - i) (drop i bs))) → Appends a c (take (i + n) bs)
wrote_more a b c bs i n within p q = subst (Appends a c) (next_front bs i n within) (appends_more a b c (take i bs) (take n (take (length bs - i) (drop i bs))) p q)

pub prefix_at : (a c : Option (List ℕ)) (bs : List ℕ) (k : ℕ) → k < length bs → Appends a c (take k bs) → AppendsPrefix a c bs
prefix_at a c bs k less p = prefix_from a c (take k bs) (drop k bs) bs p (sym (take-append-drop k bs)) (omega (arith, length-drop k bs, less))

pub prefix_after : (a b c : Option (List ℕ)) (x y : List ℕ) → Appends a b x → AppendsPrefix b c y → AppendsPrefix a c (x ++ y)
prefix_after None b c x y p q = tt
prefix_after (Some xs) None c x y p q = absurd p
prefix_after (Some xs) (Some ys) None x y p q = absurd q
prefix_after (Some xs) (Some ys) (Some zs) x y p q =
    (x ++ q.0, q.1, ap (λ (r : List ℕ). x ++ r) q.2 ∙ sym (append_assoc x q.0 q.1), q.3 ∙ ap (λ (r : List ℕ). r ++ q.0) p ∙ append_assoc xs x q.0, q.4)

pub prefix_longer : (a c : Option (List ℕ)) (x y : List ℕ) → AppendsPrefix a c x → AppendsPrefix a c (x ++ y)
prefix_longer None c x y p = tt
prefix_longer (Some xs) None x y p = absurd p
prefix_longer (Some xs) (Some ys) x y p = (p.0, p.1 ++ y, ap (λ (r : List ℕ). r ++ y) p.2 ∙ append_assoc p.0 p.1 y, p.3, omega (arith, length-append p.1 y, p.4))

-- bytes that were written after a prefix, without those from the t-th on
pub front_kept : (n t p : ℕ) (old new bytes : List ℕ) → take (p + n) new ≡ take p old ++ bytes → t ≤ n → p ≤ length old → take (p + t) new ≡ take p old ++ take t bytes
front_kept n t p old new bytes prefix few within =
    sym (take-take (p + t) (p + n) new (omega arith))
    ∙ ap (take (p + t)) prefix
    ∙ ap (λ (k : ℕ). take (k + t) (take p old ++ bytes)) (sym (length-take-le p old within))
    ∙ take-append-add (take p old) bytes t
