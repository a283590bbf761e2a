-- A piece of text cut at its first LF.
use Rattle.std.proofs.Common.{◌≡◌, ◌≢◌, ℕ, ◌+◌, ◌-◌, ◌<◌, ◌≤◌, ◌^◌, w64, cond, Bool, false, true≢false, subst, inl, inr, map, List, ◌∷◌, ◌++◌, length, take, drop, get_or, Some, None, sym, ap, ◌∙◌, arith, eq-eqb, length-take, length-drop, add-one, drop-cons}
use Rattle.std.specs.List.{All}
use Rattle.std.proofs.lemmas.Bool.{eqb-true}
use Rattle.std.proofs.lemmas.List.{take-append-drop, take_all, get_or-take, get_or_past, length-map}
use Rattle.std.proofs.lemmas.List.Elements.{All-from_get_or}
use Rattle.std.specs.Simd.Lanes.{mask_l}
use Rattle.std.specs.Int.Count.{count_trailing_zeros}
use Rattle.std.proofs.lemmas.Bool.{cases_lt}
use Rattle.std.proofs.lemmas.Nat.Bits.{bit_at-trailing_zeros}
use Rattle.std.proofs.lemmas.Simd.{mask_l-lt, bit_mask_l, trailing_mask_l, run_in_chunk_fails, run_in_chunk_stops, length-chunk}
use Rattle.memchr.specs.Find.{IsFirstByte, Passes, is_byte}

pub no_line_cut : (bytes : List ℕ) → IsFirstByte (is_byte 10) bytes None → All (λ b. b ≢ 10) bytes
no_line_cut bytes none = All-from_get_or (λ b. b ≢ 10) bytes 0 (λ k h e. none k (omega arith) h (eq-eqb _ _ e))

pub line_cut_plain : (bytes : List ℕ) (i : ℕ) → IsFirstByte (is_byte 10) bytes (Some i) → All (λ b. b ≢ 10) (take i bytes)
line_cut_plain bytes i first = All-from_get_or (λ b. b ≢ 10) (take i bytes) 0 (λ k h e.
    let small : k < i = omega (arith, length-take i bytes) in
    let same : get_or (take i bytes) k 0 ≡ get_or bytes k 0 = get_or-take i bytes k 0 small in
    first.0.before k (omega arith) small (eq-eqb _ _ (sym same ∙ e)))

-- as the code's `&bytes[end + 1..]` says it
pub line_cut_whole : (bytes : List ℕ) (i : ℕ) → IsFirstByte (is_byte 10) bytes (Some i) → bytes ≡ take i bytes ++ 10 ∷ take (length bytes - (i + 1)) (drop (i + 1) bytes)
line_cut_whole bytes i first =
    let within : i < length bytes = first.0.high in
    let at : get_or bytes i 0 ≡ 10 = eqb-true _ _ first.1 in
    let e : take (length bytes - (i + 1)) (drop (i + 1) bytes) ≡ drop (i + 1) bytes = take_all _ _ (omega (arith, length-drop (i + 1) bytes)) in
    let f : drop i bytes ≡ 10 ∷ drop (i + 1) bytes = rw (add-one, drop-cons bytes i 0) (rw at) in
    sym (take-append-drop i bytes) ∙ ap (λ (r : List ℕ). take i bytes ++ r) (f ∙ ap (λ (r : List ℕ). 10 ∷ r) (sym e))

pub ruleset line_cuts = (no_line_cut, line_cut_plain, line_cut_whole)

-- FIRST BYTES

-- which of the first 32 bytes are LF, as a mask
abbrev pub ends_near : List ℕ → ℕ
ends_near bytes = mask_l (map (is_byte 10) (take 32 bytes))

-- the lowest bit that is set
abbrev pub nearest : List ℕ → ℕ
nearest bytes = count_trailing_zeros 64 (ends_near bytes)

-- 1 if the test holds
abbrev unit : Bool → ℕ
unit b = cond b 1 0

near_set : (bytes : List ℕ) → 0 < ends_near bytes → ends_near bytes < 2 ^ 32 → unit (get_or (map (is_byte 10) (take 32 bytes)) (nearest bytes) false) ≡ 1
near_set bytes some small =
    let low = bit_at-trailing_zeros w64 (ends_near bytes) some (omega arith) in
    sym (bit_mask_l (map (is_byte 10) (take 32 bytes)) (nearest bytes)) ∙ low.1

-- it is the bit of one of the 32 bytes
near_within : (bytes : List ℕ) → 32 ≤ length bytes → 0 < ends_near bytes → nearest bytes < 32
near_within bytes long some =
    let ms = map (is_byte 10) (take 32 bytes) in
    let len : length ms ≡ 32 = length-map (take 32 bytes) (is_byte 10) ∙ length-chunk 0 32 bytes long in
    let small : ends_near bytes < 2 ^ 32 = subst (λ n. ends_near bytes < 2 ^ n) len (mask_l-lt ms) in
    elim (cases_lt (nearest bytes) 32) [
      | inl low ↦ low
      | inr high ↦ (let past : get_or ms (nearest bytes) false ≡ false = get_or_past ms (nearest bytes) false (omega (arith, len)) in
          absurd (omega (arith, sym (ap unit past) ∙ near_set bytes some small)))
    ]

pub near_end : (bytes : List ℕ) → 32 ≤ length bytes → 0 < ends_near bytes → IsFirstByte (is_byte 10) bytes (Some (nearest bytes))
near_end bytes long some =
    let counted = trailing_mask_l (is_byte 10) 64 (take 32 bytes) (omega (arith, length-chunk 0 32 bytes long)) some in
    let within = near_within bytes long some in (
      record {
        low = omega arith;
        high = omega arith;
        before = λ k from to is. true≢false (sym is ∙ run_in_chunk_fails (is_byte 10) bytes 0 32 (nearest bytes) 0 long counted k from (omega arith));
      },
      subst (λ i. Passes (is_byte 10) bytes i) (omega arith) (run_in_chunk_stops (is_byte 10) bytes 0 32 (nearest bytes) 0 long counted within),
    )
