-- What is read of an input, piece by piece.
use Rattle.std.proofs.Common.{◌≡◌, ◌≤◌, ◌<◌, ◌+◌, inl, inr, ℕ, List, [], ◌++◌, length, take, drop, Option, Some, None, IfSome, refl, sym, ap, ◌∙◌, append_assoc, append-nil, arith}
use Rattle.std.specs.Io.KnownBytes.{Consumes, IsAtEnd}
use Rattle.std.proofs.lemmas.List.{take-append-drop, take-take, take_all, take_at, length-append, length-take-le}
use Rattle.ec_text.specs.Inputs.{looked_at, IsReadUp}

-- what was consumed in two steps
pub consumes_on : (old mid new : Option (List ℕ)) (xs ys : List ℕ) → Consumes old mid xs → Consumes mid new ys → Consumes old new (xs ++ ys)
consumes_on None mid new xs ys a b = tt
consumes_on (Some o) None new xs ys a b = absurd a
consumes_on (Some o) (Some m) None xs ys a b = absurd b
consumes_on (Some o) (Some m) (Some n) xs ys a b = a ∙ ap (λ t. xs ++ t) b ∙ sym (append_assoc xs ys n)

-- nothing was read
pub consumes_none : (old : Option (List ℕ)) → Consumes old old []
consumes_none None = tt
consumes_none (Some o) = refl

-- the input is at its end
pub all_read : (max : ℕ) (old now new : Option (List ℕ)) (text buf : List ℕ) → length text ≤ max → Consumes old now text → Consumes now new (take 0 buf) → IsAtEnd new
    → IfSome old (λ bytes. text ≡ looked_at max bytes)
all_read max None now new text buf small a b e = tt
all_read max (Some o) None new text buf small a b e = absurd a
all_read max (Some o) (Some m) None text buf small a b e = absurd b
all_read max (Some o) (Some m) (Some n) text buf small a b e =
    let none : m ≡ [] = b ∙ e in
    let all : o ≡ text = a ∙ ap (λ t. text ++ t) none ∙ append-nil text in
    let long : length text ≤ max + 1 = omega (arith, small) in
    sym (take_all (max + 1) text long) ∙ ap (λ t. take (max + 1) t) (sym all)

-- one byte more than the bound was read
pub enough_read : (max room n : ℕ) (old now new : Option (List ℕ)) (text buf : List ℕ) → length text + room ≡ max + 1 → room ≤ n → n ≤ length buf
    → Consumes old now text → Consumes now new (take n buf) → IfSome old (λ bytes. text ++ take room buf ≡ looked_at max bytes)
enough_read max room n None now new text buf full within small a b = tt
enough_read max room n (Some o) None new text buf full within small a b = absurd a
enough_read max room n (Some o) (Some m) None text buf full within small a b = absurd b
enough_read max room n (Some o) (Some m) (Some r) text buf full within small a b =
    let prefix : List ℕ = take room buf in
    let rest : List ℕ = drop room (take n buf) in
    let parts : prefix ++ rest ≡ take n buf = ap (λ x. x ++ rest) (sym (take-take room n buf within)) ∙ take-append-drop room (take n buf) in
    let whole : o ≡ (text ++ prefix) ++ (rest ++ r) =
    a ∙ ap (λ t. text ++ t) (b ∙ ap (λ t. t ++ r) (sym parts) ∙ append_assoc prefix rest r) ∙ sym (append_assoc text prefix (rest ++ r)) in
    let len : length (text ++ prefix) ≡ max + 1 =
    length-append text prefix ∙ ap (λ k. length text + k) (length-take-le room buf (omega (arith, within, small))) ∙ full in
    sym (take_at (text ++ prefix) (rest ++ r) (max + 1) len)
    ∙ ap (λ t. take (max + 1) t) (sym whole)

-- HOW MUCH WAS READ

-- one byte more than a text may have was read, in a piece of n bytes
pub past_bound : (max n : ℕ) (old now new : Option (List ℕ)) (text buf : List ℕ) → length text ≤ max → max < length text + n → n ≤ length buf → length buf ≡ 8192
    → Consumes old now text → Consumes now new (take n buf) → IfSome old (λ bytes. IsReadUp max bytes new)
past_bound max n None now new text buf small enough within full a b = tt
past_bound max n (Some o) None new text buf small enough within full a b = absurd a
past_bound max n (Some o) (Some m) None text buf small enough within full a b = absurd b
past_bound max n (Some o) (Some m) (Some r) text buf small enough within full a b =
    let len : length (text ++ take n buf) ≡ length text + n = length-append text (take n buf) ∙ ap (λ k. length text + k) (length-take-le n buf within) in record {
      given = text ++ take n buf;
      gave = consumes_on (Some o) (Some m) (Some r) text (take n buf) a b;
      few = omega (arith, len, small, within, full);
      enough = inr (omega (arith, len, enough));
    }

-- the end was reached
pub at_end : (max : ℕ) (old now new : Option (List ℕ)) (text buf : List ℕ) → length text ≤ max → Consumes old now text → Consumes now new (take 0 buf) → IsAtEnd new
    → IfSome old (λ bytes. IsReadUp max bytes new)
at_end max None now new text buf small a b e = tt
at_end max (Some o) None new text buf small a b e = absurd a
at_end max (Some o) (Some m) None text buf small a b e = absurd b
at_end max (Some o) (Some m) (Some r) text buf small a b e = record {
  given = text ++ take 0 buf;
  gave = consumes_on (Some o) (Some m) (Some r) text (take 0 buf) a b;
  few = omega (arith, length-append text (take 0 buf), small);
  enough = inl e;
}

-- both hold of known bytes
pub both_known : (P Q : List ℕ → Type 0) (old : Option (List ℕ)) → IfSome old P → IfSome old Q → IfSome old (λ bytes. P bytes × Q bytes)
both_known P Q None p q = tt
both_known P Q (Some o) p q = (p, q)
