-- Lines that come in pieces.
use Rattle.std.proofs.Common.{◌≡◌, ◌≢◌, ◌<◌, ℕ, Bool, true, false, cond, eqb, List, [], ◌∷◌, ◌++◌, length}
use Rattle.std.proofs.Common.{Option, Some, None, Result, Ok, Err, refl, ap, sym, ◌∙◌, subst, arith}
use Rattle.std.proofs.Common.{append_assoc, append-nil, length-append}
use Rattle.std.specs.List.{All, onto_first}
use Rattle.std.specs.Io.KnownBytes.{Consumes}
use Rattle.std.proofs.lemmas.List.Splits.{slice_split_at, slice_split_none, slice_split-cons_no}
use Rattle.std.proofs.lemmas.List.Elements.{All-append, All-nil, All-head, All-tail}
use Rattle.calls_text.specs.Outcomes.{lines_of_text}
use Rattle.calls_watch.specs.declared.feeder.Feeder.{Feeder}
use Rattle.calls_watch.specs.declared.stop.Stop.{Stop}
use Rattle.calls_watch.specs.declared.watcher.Watcher.{Watcher}
use Rattle.calls_watch.specs.kept.Watching.{IsWatching, Stops, StateAfterLine, IsFed, Feeds}
use Rattle.calls_watch.specs.kept.Watching.{GathersTo, FedFrom}
use Rattle.ec_text.proofs.shared.WordLemmas.{onto_has}
use Rattle.calls_watch.proofs.TextLemmas.{no_lf}

pub parts_line : (line more : List ℕ) → All (λ b. b ≢ 10) line
    → lines_of_text (line ++ 10 ∷ more) ≡ line ∷ lines_of_text more
parts_line line more none = slice_split_at (λ b. eqb b 10) line 10 more (no_lf line none) refl

pub parts_rest : (rest : List ℕ) → All (λ b. b ≢ 10) rest → lines_of_text rest ≡ rest ∷ []
parts_rest rest none = slice_split_none (λ b. eqb b 10) rest (no_lf rest none)

-- there is a first part
pub record HasFirst (bytes : List ℕ) : Type 0 where
  pub first : List ℕ
  pub others : List (List ℕ)
  pub is : lines_of_text bytes ≡ first ∷ others

pub has_first : (bytes : List ℕ) → HasFirst bytes
has_first [] = record { first = []; others = []; is = refl }
has_first (b ∷ bytes) =
    let P : Bool → Type 0 =
    λ t. (first : List ℕ) × (others : List (List ℕ)) ×
    (cond t ([] ∷ lines_of_text bytes) (onto_first b (lines_of_text bytes)) ≡ first ∷ others) in
    let w : P (eqb b 10) = elim (eqb b 10) as P [
      | true ↦ ([], lines_of_text bytes, refl)
      | false ↦ onto_has b (lines_of_text bytes)
    ] in
    record { first = w.0; others = w.1; is = w.2 }

-- bytes without an LF begin the first part
parts_begin : (bytes more : List ℕ) (first : List ℕ) (others : List (List ℕ))
    → All (λ b. eqb b 10 ≡ false) bytes → lines_of_text more ≡ first ∷ others
    → lines_of_text (bytes ++ more) ≡ (bytes ++ first) ∷ others
parts_begin [] more first others none is = is
parts_begin (b ∷ bytes) more first others none is =
    slice_split-cons_no (λ x. eqb x 10) b (bytes ++ more)
    (All-head (λ x. eqb x 10 ≡ false) b bytes none)
    ∙ ap (onto_first b) (parts_begin bytes more first others
    (All-tail (λ x. eqb x 10 ≡ false) b bytes none) is)

-- LINES

pub line_fed : (ps : List (List ℕ)) (line more : List ℕ) (old new : Watcher)
    (result : Result (Unit {0}) Stop) → All (λ b. b ≢ 10) line
    → IsWatching ps (lines_of_text (line ++ 10 ∷ more)) old
    → ((qs : List (List ℕ)) (q : List ℕ) → IsWatching ps (line ∷ q ∷ qs) old
    → StateAfterLine result ps (q ∷ qs) new) → StateAfterLine result ps (lines_of_text more) new
line_fed ps line more old new result none w goes =
    let f : HasFirst more = has_first more in
    subst (λ (qs : List (List ℕ)). StateAfterLine result ps qs new) (sym f.is)
    (goes f.others f.first (subst (λ (qs : List (List ℕ)). IsWatching ps qs old)
    (parts_line line more none ∙ ap (λ (qs : List (List ℕ)). line ∷ qs) f.is) w))

pub gather_fed : (ps : List (List ℕ)) (bytes rest : List ℕ) (old new : Feeder)
    (result : Result (Unit {0}) Stop) → IsFed ps (bytes ++ rest) old → All (λ b. b ≢ 10) bytes
    → GathersTo result bytes old new → Feeds result ps rest new
gather_fed ps bytes rest old new (Ok u) fed none g =
    let P : List ℕ → Type 0 = λ (xs : List ℕ). IsWatching ps (lines_of_text xs) old.watcher in
    let all : new.part.items ++ rest ≡ old.part.items ++ (bytes ++ rest) =
    ap (λ (xs : List ℕ). xs ++ rest) g.0 ∙ append_assoc old.part.items bytes rest in
    record {
      watching = subst (λ (v : Watcher). IsWatching ps (lines_of_text (new.part.items ++ rest)) v)
          (sym g.1) (subst P (sym all) fed.watching);
      plain = subst (All (λ b. b ≢ 10)) (sym g.0)
          (All-append (λ b. b ≢ 10) old.part.items bytes fed.plain none);
    }
gather_fed ps bytes rest old new (Err stop) fed none g =
    let begun : List ℕ = old.part.items ++ bytes in
    let plain : All (λ b. b ≢ 10) begun =
    All-append (λ b. b ≢ 10) old.part.items bytes fed.plain none in
    let f : HasFirst rest = has_first rest in
    let P : List ℕ → Type 0 = λ (xs : List ℕ). IsWatching ps (lines_of_text xs) old.watcher in
    let all : IsWatching ps (lines_of_text (begun ++ rest)) old.watcher =
    subst P (sym (append_assoc old.part.items bytes rest)) fed.watching in
    let at : IsWatching ps ((begun ++ f.first) ∷ f.others) old.watcher =
    subst (λ (qs : List (List ℕ)). IsWatching ps qs old.watcher)
    (parts_begin begun rest f.first f.others (no_lf begun plain) f.is) all in
    let long : 8192 < length (begun ++ f.first) = omega (arith, g.0, length-append begun f.first) in
    g.2 ps f.others (begun ++ f.first) at long

-- a line of a piece, and what the text has after it
pub joined : (line behind left rest : List ℕ) → left ≡ line ++ 10 ∷ behind
    → left ++ rest ≡ line ++ 10 ∷ (behind ++ rest)
joined line behind left rest is =
    ap (λ (xs : List ℕ). xs ++ rest) is ∙ append_assoc line (10 ∷ behind) rest

pub line_in : (ps : List (List ℕ)) (line behind left rest : List ℕ) (old new : Watcher)
    (result : Result (Unit {0}) Stop) → left ≡ line ++ 10 ∷ behind → All (λ b. b ≢ 10) line
    → IsWatching ps (lines_of_text (left ++ rest)) old
    → ((qs : List (List ℕ)) (q : List ℕ) → IsWatching ps (line ∷ q ∷ qs) old
    → StateAfterLine result ps (q ∷ qs) new)
    → StateAfterLine result ps (lines_of_text (behind ++ rest)) new
line_in ps line behind left rest old new result is none w goes =
    line_fed ps line (behind ++ rest) old new result none
    (subst (λ (xs : List ℕ). IsWatching ps (lines_of_text xs) old) (joined line behind left rest is) w)
    goes

-- a line whose prefix was gathered
pub line_done : (ps : List (List ℕ)) (rest : List ℕ) (mid new : Feeder)
    (result : Result (Unit {0}) Stop) → StateAfterLine result ps (lines_of_text rest) mid.watcher
    → new.watcher ≡ mid.watcher → new.part.items ≡ [] → Feeds result ps rest new
line_done ps rest mid new (Ok u) goes same none = record {
  watching = subst (λ (v : Watcher). IsWatching ps (lines_of_text (new.part.items
      ++ rest)) v) (sym same)
      (subst (λ (xs : List ℕ). IsWatching ps (lines_of_text (xs
      ++ rest)) mid.watcher) (sym none) goes);
  plain = subst (All (λ b. b ≢ 10)) (sym none) (All-nil (λ b. b ≢ 10));
}
line_done ps rest mid new (Err stop) goes same none =
    subst (λ (v : Watcher). Stops stop ps v) (sym same) goes

-- nothing was gathered
pub fed_plainly : (ps : List (List ℕ)) (rest : List ℕ) (f : Feeder) → f.part.items ≡ []
    → IsFed ps rest f → IsWatching ps (lines_of_text rest) f.watcher
fed_plainly ps rest f none fed =
    subst (λ (xs : List ℕ). IsWatching ps (lines_of_text (xs ++ rest)) f.watcher) none fed.watching

pub plainly_fed : (ps : List (List ℕ)) (rest : List ℕ) (f : Feeder) → f.part.items ≡ []
    → IsWatching ps (lines_of_text rest) f.watcher → IsFed ps rest f
plainly_fed ps rest f none w = record {
  watching = subst (λ (xs : List ℕ). IsWatching ps (lines_of_text (xs
      ++ rest)) f.watcher) (sym none) w;
  plain = subst (All (λ b. b ≢ 10)) (sym none) (All-nil (λ b. b ≢ 10));
}

-- the end of a text
pub fed_to_the_end : (ps : List (List ℕ)) (f : Feeder) → IsFed ps [] f
    → IsWatching ps (f.part.items ∷ []) f.watcher
fed_to_the_end ps f fed =
    subst (λ (qs : List (List ℕ)). IsWatching ps qs f.watcher)
    (ap lines_of_text (append-nil f.part.items) ∙ parts_rest f.part.items fed.plain) fed.watching

-- BYTES THAT ARE KNOWN

-- what was returned for bytes that were read
abbrev pub FedBy : Result (Unit {0}) Stop → Option (List ℕ) → Option (List ℕ) → Feeder → Type 0
FedBy (Ok u) old now f = FedFrom old now f
FedBy (Err stop) None now f = Unit {0}
FedBy (Err stop) (Some bytes) now f = Stops stop (lines_of_text bytes) f.watcher

pub fed_on : (old now new : Option (List ℕ)) (bytes : List ℕ) (f g : Feeder)
    (result : Result (Unit {0}) Stop) → FedFrom old now f → Consumes now new bytes
    → ((ps : List (List ℕ)) (rest : List ℕ) → IsFed ps (bytes ++ rest) f → Feeds result ps rest g)
    → FedBy result old new g
fed_on None now new bytes f g (Ok u) fed takes feeds = tt
fed_on None now new bytes f g (Err stop) fed takes feeds = tt
fed_on (Some xs) None new bytes f g result fed takes feeds = absurd fed
fed_on (Some xs) (Some ys) None bytes f g result fed takes feeds = absurd takes
fed_on (Some xs) (Some ys) (Some zs) bytes f g (Ok u) fed takes feeds =
    feeds (lines_of_text xs) zs (subst (λ (r : List ℕ). IsFed (lines_of_text xs) r f) takes fed)
fed_on (Some xs) (Some ys) (Some zs) bytes f g (Err stop) fed takes feeds =
    feeds (lines_of_text xs) zs (subst (λ (r : List ℕ). IsFed (lines_of_text xs) r f) takes fed)
