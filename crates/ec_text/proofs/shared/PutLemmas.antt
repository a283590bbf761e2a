-- What each step of an output leaves.
use Rattle.std.proofs.Common.{◌≡◌, ℕ, List, [], ◌++◌, Bool, true, false, if◌then◌else◌, Option, None, Some, refl, Result, Ok, Err, sym, ap, ◌∙◌, append_assoc, append-nil, subst}
use Rattle.std.specs.Result.{is_err, OnOk, OnErr}
use Rattle.std.specs.Io.KnownBytes.{Appends}
use Rattle.ec_text.specs.Puts.{AppendsPrefix, HoldsAs, Holds, Puts, OutputModel, IsFresh}
use Rattle.ec_text.proofs.AppendLemmas.{appends_more, prefix_after, prefix_longer}

-- nothing is put after a failure
pub puts_failed : (out : OutputModel) (bs : List ℕ) → out.failed ≡ true → Puts out out bs
unfolding Holds
puts_failed out bs failed = λ first all h.
    let h' : HoldsAs first.contents out.contents true out.waiting all = rw failed at h.1 in
    (h.0, rw failed (prefix_longer first.contents out.contents all bs h'))

-- bytes that are added to the buffer are put
pub puts_held : (out : OutputModel) (bs waiting : List ℕ) → out.failed ≡ false → waiting ≡ out.waiting ++ bs → Puts out (record out { waiting = waiting }) bs
unfolding Holds
puts_held out bs waiting good is = λ first all h.
    let h' : HoldsAs first.contents out.contents false out.waiting all = rw good at h.1 in
    (h.0, rw (good, is) (h'.0, ap (λ (r : List ℕ). r ++ bs) h'.1 ∙ append_assoc h'.0 out.waiting bs, h'.2))

-- bytes that are added to the buffer are put, also after a failure, when it counts as empty
pub puts_taken : (writer : ℕ) (contents : Option (List ℕ)) (failed : Bool) (held now bs : List ℕ) → now ≡ held ++ bs
    → Puts (record { writer = writer; contents = contents; waiting = if failed then [] else held; failed = failed }) (record { writer = writer; contents = contents; waiting = if failed then [] else now; failed = failed }) bs
puts_taken writer contents true held now bs is = puts_failed _ bs refl
puts_taken writer contents false held now bs is = puts_held _ bs now refl is

-- bytes that were written after those of the buffer are put, whether all were written or a write
-- failed
wrote : {E : Type 0} (out : OutputModel) (now : Option (List ℕ)) (bs : List ℕ) (r : Result (Unit {0}) E) → out.failed ≡ false → OnOk r (Appends out.contents now (out.waiting ++ bs)) → OnErr r (AppendsPrefix out.contents now (out.waiting ++ bs))
    → Puts out (record { writer = out.writer; contents = now; waiting = []; failed = is_err r }) bs
unfolding Holds
wrote out now bs (Ok x) good ok err = λ first all h.
    let h' : HoldsAs first.contents out.contents false out.waiting all = rw good at h.1 in
    (h.0, (h'.0 ++ (out.waiting ++ bs), ap (λ (r : List ℕ). r ++ bs) h'.1 ∙ append_assoc h'.0 out.waiting bs ∙ sym (append-nil (h'.0 ++ (out.waiting ++ bs))), appends_more first.contents out.contents now h'.0 (out.waiting ++ bs) h'.2 ok))
wrote out now bs (Err x) good ok err = λ first all h.
    let h' : HoldsAs first.contents out.contents false out.waiting all = rw good at h.1 in
    (h.0, subst (AppendsPrefix first.contents now) (sym (ap (λ (r : List ℕ). r ++ bs) h'.1 ∙ append_assoc h'.0 out.waiting bs)) (prefix_after first.contents out.contents now h'.0 (out.waiting ++ bs) h'.2 err))

-- the same if the buffer was empty
pub puts_written : {E : Type 0} (out : OutputModel) (now : Option (List ℕ)) (bs waiting : List ℕ) (failed : Bool) (r : Result (Unit {0}) E) → out.failed ≡ false → out.waiting ≡ [] → OnOk r (Appends out.contents now bs) → OnErr r (AppendsPrefix out.contents now bs)
    → waiting ≡ [] → failed ≡ is_err r → Puts out (record { writer = out.writer; contents = now; waiting = waiting; failed = failed }) bs
puts_written out now bs waiting failed r good none ok err done is =
    let e : bs ≡ out.waiting ++ bs = ap (λ (k : List ℕ). k ++ bs) (sym none) in
    rw (done, is) (wrote out now bs r good (subst (λ (k : List ℕ). OnOk r (Appends out.contents now k)) e ok) (subst (λ (k : List ℕ). OnErr r (AppendsPrefix out.contents now k)) e err))

-- if the bytes of the buffer were written, whether all were or a write failed, nothing more is put
pub puts_flushed : {E : Type 0} (out : OutputModel) (now : Option (List ℕ)) (waiting : List ℕ) (failed : Bool) (r : Result (Unit {0}) E) → out.failed ≡ false → OnOk r (Appends out.contents now out.waiting) → OnErr r (AppendsPrefix out.contents now out.waiting)
    → waiting ≡ [] → failed ≡ is_err r → Puts out (record { writer = out.writer; contents = now; waiting = waiting; failed = failed }) []
puts_flushed out now waiting failed r good ok err done is =
    let e : out.waiting ≡ out.waiting ++ [] = sym (append-nil out.waiting) in
    rw (done, is) (wrote out now [] r good (subst (λ (k : List ℕ). OnOk r (Appends out.contents now k)) e ok) (subst (λ (k : List ℕ). OnErr r (AppendsPrefix out.contents now k)) e err))

-- what is put in two steps is the bytes of the first, and then those of the second
pub puts_then : (a b c : OutputModel) (p q : List ℕ) → Puts a b p → Puts b c q → Puts a c (p ++ q)
puts_then a b c p q one two = λ first all h. subst (Holds first c) (append_assoc all p q) (two first (all ++ p) (one first all h))

-- at first, with an empty buffer and no failure, nothing was put
pub begins : (out : OutputModel) → IsFresh out → Holds out out []
unfolding Holds
begins out fresh = (refl, rw (fresh.1, fresh.0) ([], refl, appends_none out.contents))
  where
    appends_none : (now : Option (List ℕ)) → Appends now now []
    appends_none None = tt
    appends_none (Some xs) = sym (append-nil xs)

-- what was put since then, if no more was put
pub flushed : (first old new : OutputModel) (all : List ℕ) → Puts old new [] → Holds first old all → Holds first new all
flushed first old new all puts h = subst (Holds first new) (append-nil all) (puts first all h)

pub ends_same : (first now : OutputModel) (all : List ℕ) → Holds first now all → now.writer ≡ first.writer
unfolding Holds
ends_same first now all h = h.0

-- if no write failed and the buffer is empty, all that was put is written
pub ends_ok : (first now : OutputModel) (all : List ℕ) → Holds first now all → now.failed ≡ false → now.waiting ≡ [] → Appends first.contents now.contents all
unfolding Holds
ends_ok first now all h good none =
    let h' : HoldsAs first.contents now.contents false [] all = rw (good, none) at h.1 in
    subst (Appends first.contents now.contents) (sym (h'.1 ∙ append-nil h'.0)) h'.2

-- after a failure a proper prefix of what was put is written
pub ends_err : (first now : OutputModel) (all : List ℕ) → Holds first now all → now.failed ≡ true → AppendsPrefix first.contents now.contents all
unfolding Holds
ends_err first now all h failed = rw failed at h.1
