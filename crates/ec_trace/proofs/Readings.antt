-- What holds while a text is read, and when reading ends.
use Rattle.std.proofs.Common.{◌≡◌, ◌≢◌, ℕ, ◌+◌, ◌-◌, ◌<◌, ◌≤◌, List, [], ◌∷◌, ◌++◌, length, take, Bool, true, false, eqb, ltb, refl, sym, ap, ◌∙◌, arith, Option, Some, None, Ok, Err, length-append, append_assoc, append-nil, lt-ltb, le-ltb, subst}
use Rattle.std.proofs.Math.Seq.{take-append-add, take-append_seam}
use Rattle.std.proofs.lemmas.Bool.{cond-true, cond-false}
use Rattle.std.proofs.lemmas.Bool.Decides.{nat_tests}
use Rattle.std.proofs.lemmas.List.{take_all}
use Rattle.std.specs.List.{All}
use Rattle.std.specs.Io.KnownBytes.{Consumes, Keeps, IsAtEnd}
use Rattle.std.proofs.lemmas.List.Elements.{All-nil}
use Rattle.ec_trace.proofs.Goes.{goes_line, goes_held, goes_rest, goes_ended}
use Rattle.ec_trace.specs.TraceModel.{TraceModel}
use Rattle.ec_trace.specs.Stages.{Stage, Opening, Limiting, Declaring, Running, Ended}
use Rattle.ec_trace.specs.Step.{step, is_ended}
use Rattle.ec_trace.specs.Outcome.{ReadState, parse_from, goes_from, lines_of_text, start, parse_result, trace_or_fault, ended_at, fault_of_line, Returns}
use Rattle.ec_trace.specs.Reading.{LinesModel, Refills, Begins, Reaches, HasLine}
use Rattle.ec_trace.specs.declared.fault.LineFault.{LineFault}
use Rattle.ec_trace.specs.declared.fault.LineFault.TheVariants as line_faults
use Rattle.ec_trace.specs.declared.fault.TraceFault.{TraceFault}
use Rattle.ec_trace.specs.declared.fault.TraceFault.TheVariants.{BadLine, TooLarge, Unfinished, Read}
use Rattle.ec_trace.specs.declared.read.TheConstants.{TRACE_MAX}

-- THE TEXT

-- a prefix of the text has a fault, whatever follows
fault_at : (xs ys given : List ℕ) (f : TraceFault) → xs ≡ given ++ ys → length given ≤ TRACE_MAX → ((more : List ℕ) → goes_from start (given ++ more) ≡ Err f) → parse_result TRACE_MAX xs ≡ Err f
unfolding parse_result
fault_at xs ys given f whole small fails =
    let m : length given + (TRACE_MAX - length given) ≡ TRACE_MAX = omega arith in
    let t : take TRACE_MAX xs ≡ given ++ take (TRACE_MAX - length given) ys =
    ap (λ (k : ℕ). take k xs) (sym m) ∙ ap (take (length given + (TRACE_MAX - length given))) whole ∙ take-append-add given ys (TRACE_MAX - length given) in
    ap (trace_or_fault TRACE_MAX xs) (ap (goes_from start) t
    ∙ fails (take (TRACE_MAX - length given) ys))

-- a prefix that is as long as a text may be has no fault, and more follows
large_at : (xs ys given : List ℕ) (p : ReadState) → xs ≡ given ++ ys → length given ≡ TRACE_MAX → 0 < length ys → goes_from start (given ++ []) ≡ Ok p → parse_result TRACE_MAX xs ≡ Err TooLarge
unfolding parse_result
large_at xs ys given p whole full some goes =
    let t : take TRACE_MAX xs ≡ given = ap (λ (k : ℕ). take k xs) (sym full) ∙ ap (take (length given)) whole ∙ take-append_seam given ys in
    let g : goes_from start (take TRACE_MAX xs) ≡ Ok p = ap (goes_from start) (t ∙ sym (append-nil given)) ∙ goes in
    let long : ltb TRACE_MAX (length xs) ≡ true = lt-ltb _ _ (omega (arith, ap length whole, length-append given ys)) in
    ap (trace_or_fault TRACE_MAX xs) g ∙ cond-true _ _ _ long

-- all of the text was read, and this is what it is read as
whole_at : (xs given : List ℕ) (p : ReadState) → xs ≡ given ++ [] → length given ≤ TRACE_MAX → goes_from start (given ++ []) ≡ Ok p → parse_result TRACE_MAX xs ≡ ended_at p
unfolding parse_result
whole_at xs given p whole small goes =
    let e : xs ≡ given = whole ∙ append-nil given in
    let t : take TRACE_MAX xs ≡ given ++ [] = take_all TRACE_MAX xs (omega (arith, ap length e)) ∙ whole in
    let g : goes_from start (take TRACE_MAX xs) ≡ Ok p = ap (goes_from start) t ∙ goes in
    let short : ltb TRACE_MAX (length xs) ≡ false = le-ltb _ _ (omega (arith, ap length e)) in
    ap (trace_or_fault TRACE_MAX xs) g ∙ cond-false _ _ _ short

-- WHAT IS LEFT

fault_of : (xs : List ℕ) (left : Option (List ℕ)) (given rest : List ℕ) (f : TraceFault) → Consumes (Some xs) left (given ++ rest) → length given ≤ TRACE_MAX → ((more : List ℕ) → goes_from start (given ++ more) ≡ Err f) → parse_result TRACE_MAX xs ≡ Err f
fault_of xs None given rest f gave small fails = absurd gave
fault_of xs (Some ys) given rest f gave small fails = fault_at xs (rest ++ ys) given f (gave ∙ append_assoc given rest ys) small fails

large_of : (xs : List ℕ) (left : Option (List ℕ)) (given rest : List ℕ) (p : ReadState) → Consumes (Some xs) left (given ++ rest) → length given ≡ TRACE_MAX → 0 < length rest → goes_from start (given ++ []) ≡ Ok p → parse_result TRACE_MAX xs ≡ Err TooLarge
large_of xs None given rest p gave full some goes = absurd gave
large_of xs (Some ys) given rest p gave full some goes = large_at xs (rest ++ ys) given p (gave ∙ append_assoc given rest ys) full (omega (arith, length-append rest ys)) goes

whole_of : (xs : List ℕ) (left : Option (List ℕ)) (given : List ℕ) (p : ReadState) → Consumes (Some xs) left given → IsAtEnd left → length given ≤ TRACE_MAX → goes_from start (given ++ []) ≡ Ok p → parse_result TRACE_MAX xs ≡ ended_at p
whole_of xs None given p gave end small goes = absurd gave
whole_of xs (Some ys) given p gave end small goes = whole_at xs given p (gave ∙ ap (λ (zs : List ℕ). given ++ zs) end) small goes

-- a failed read consumes nothing
failed_of : (xs : List ℕ) (left after : Option (List ℕ)) (given : List ℕ) (p : ReadState) → Consumes (Some xs) left given → Keeps left after → length given ≤ TRACE_MAX → goes_from start (given ++ []) ≡ Ok p → Returns TRACE_MAX xs after (Err Read)
failed_of xs None after given p gave kept small goes = absurd gave
failed_of xs (Some ys) None given p gave kept small goes = absurd kept
failed_of xs (Some ys) (Some zs) given p gave kept small goes = record {
  given = given;
  place = p;
  gave = gave ∙ ap (λ (r : List ℕ). given ++ r) (sym kept);
  within = small;
  goes = ap (goes_from start) (sym (append-nil given)) ∙ goes;
}

-- THE BEGINNING

pub reaches_start : (a : Option (List ℕ)) (xs : List ℕ) (r : LinesModel) → a ≡ Some xs → r ≡ record { number = 0; taken = 0; line = []; part = []; behind = []; over = [] } → Reaches xs a r Opening
unfolding start
reaches_start a xs r known fresh =
    subst (λ r. Reaches xs a r Opening) (sym fresh) (subst (λ o. Reaches xs o (record { number = 0; taken = 0; line = []; part = []; behind = []; over = [] }) Opening) (sym known) (record { given = []; gave = refl; len = refl; goes = λ more. refl }))

-- A LINE

-- the prefix that is consumed grows by bytes that were read
gives_more : (xs : List ℕ) (left : Option (List ℕ)) (given behind over more rest : List ℕ) → Consumes (Some xs) left (given ++ (behind ++ over)) → behind ≡ more ++ rest → Consumes (Some xs) left ((given ++ more) ++ (rest ++ over))
gives_more xs left given behind over more rest gave e =
    let same : given ++ (behind ++ over) ≡ (given ++ more) ++ (rest ++ over) =
    ap (λ (b : List ℕ). given ++ (b ++ over)) e ∙ ap (λ (b : List ℕ). given ++ b) (append_assoc more rest over) ∙ sym (append_assoc given more (rest ++ over)) in
    subst (Consumes (Some xs) left) same gave

-- an LF ends the line
pub line_ends : (xs : List ℕ) (left : Option (List ℕ)) (r q : LinesModel) (part line whole : List ℕ) (s : Stage) → Begins xs left r part s → r.behind ≡ line ++ 10 ∷ q.behind → q.over ≡ r.over → q.number ≡ r.number + 1 → q.taken ≡ r.taken + (length line + 1)
    → whole ≡ part ++ line → All (λ b. b ≢ 10) whole → length whole ≤ 8192 → HasLine xs left q whole s
line_ends xs left r q part line whole s b cut over number took same plain short =
    let short : ltb 8192 (length whole) ≡ false = le-ltb _ _ short in
    let cut : r.behind ≡ (line ++ 10 ∷ []) ++ q.behind = cut ∙ sym (append_assoc line (10 ∷ []) q.behind) in
    record {
      given = b.given ++ (line ++ 10 ∷ []);
      gave = subst (λ (o : List ℕ). Consumes (Some xs) left ((b.given ++ (line ++ 10 ∷ [])) ++ (q.behind ++ o))) (sym over) (gives_more xs left b.given r.behind r.over (line ++ 10 ∷ []) q.behind b.gave cut);
      len = omega (arith, b.len, took, length-append b.given (line ++ 10 ∷ []), length-append line (10 ∷ []));
      goes = λ more.
          let prefix : (b.given ++ (line ++ 10 ∷ [])) ++ more ≡ b.given ++ (line ++ 10 ∷ more) = append_assoc b.given (line ++ 10 ∷ []) more ∙ ap (λ (x : List ℕ). b.given ++ x) (append_assoc line (10 ∷ []) more) in
          let back : part ++ (line ++ 10 ∷ more) ≡ whole ++ 10 ∷ more = sym (append_assoc part line (10 ∷ more)) ∙ ap (λ (x : List ℕ). x ++ 10 ∷ more) (sym same) in
          ap (goes_from start) prefix ∙ b.goes (line ++ 10 ∷ more) ∙ ap (λ (x : List ℕ). parse_from (r.number + 1) s (lines_of_text x)) back ∙ goes_line (r.number + 1) s whole more plain ∙ rw short (rw number refl);
    }

-- what was read is the next part of the line
pub line_grows : (xs : List ℕ) (left : Option (List ℕ)) (r q : LinesModel) (part whole : List ℕ) (s : Stage) → Begins xs left r part s → q.behind ≡ [] → q.over ≡ r.over → q.number ≡ r.number → q.taken ≡ r.taken + length r.behind → whole ≡ part ++ r.behind → Begins xs left q whole s
line_grows xs left r q part whole s b none over number took same = record {
  given = b.given ++ r.behind;
  gave = rw (none, over) (gives_more xs left b.given r.behind r.over r.behind [] b.gave (sym (append-nil r.behind)));
  len = omega (arith, b.len, took, length-append b.given r.behind);
  goes = λ more. ap (goes_from start) (append_assoc b.given r.behind more) ∙ b.goes (r.behind ++ more) ∙ ap (λ (x : List ℕ). parse_from (r.number + 1) s (lines_of_text x)) (sym (append_assoc part r.behind more) ∙ ap (λ (x : List ℕ). x ++ more) (sym same)) ∙ rw number refl;
}

-- there is no room for the line
pub line_long : (xs : List ℕ) (left : Option (List ℕ)) (r : LinesModel) (part line rest : List ℕ) (s : Stage) → Begins xs left r part s → r.behind ≡ line ++ rest → r.taken + length r.behind ≤ TRACE_MAX → All (λ b. b ≢ 10) part → All (λ b. b ≢ 10) line → 8192 < length part + length line → Returns TRACE_MAX xs left (Err (BadLine (r.number + 1)))
line_long xs left r part line rest s b cut small before plain long =
    fault_of xs left (b.given ++ line) (rest ++ r.over) (BadLine (r.number + 1)) (gives_more xs left b.given r.behind r.over line rest b.gave cut)
    (omega (arith, b.len, length-append b.given line, ap length cut, length-append line rest))
    (λ more. ap (goes_from start) (append_assoc b.given line more) ∙ b.goes (line ++ more) ∙ goes_held (r.number + 1) s part line more before plain long)

-- the next piece was read
refilled_of : (xs : List ℕ) (left after : Option (List ℕ)) (given more : List ℕ) → Consumes (Some xs) left given → Consumes left after more → Consumes (Some xs) after (given ++ more)
refilled_of xs None after given more gave took = absurd gave
refilled_of xs (Some ys) None given more gave took = absurd took
refilled_of xs (Some ys) (Some zs) given more gave took = gave ∙ ap (λ (w : List ℕ). given ++ w) took ∙ sym (append_assoc given more zs)

pub line_refilled : (xs : List ℕ) (left after : Option (List ℕ)) (r q : LinesModel) (is_more : Bool) (part : List ℕ) (s : Stage) → Begins xs left r part s → r.behind ≡ [] → r.over ≡ [] → Refills r q left after is_more → Begins xs after q part s
line_refilled xs left after r q is_more part s b none over came = record {
  given = b.given;
  gave = refilled_of xs left after b.given (q.behind ++ q.over) (subst (Consumes (Some xs) left) (rw (none, over) (append-nil b.given)) b.gave) came.gave;
  len = b.len ∙ sym came.taken;
  goes = λ more. b.goes more ∙ rw came.number refl;
}

-- before the next line, its part is empty; at the end of the line, its part is the line
pub part_cleared : (xs : List ℕ) (left : Option (List ℕ)) (r q : LinesModel) (s : Stage) → q ≡ record { number = r.number; taken = r.taken; line = q.line; part = []; behind = r.behind; over = r.over } → Reaches xs left r s → Begins xs left q q.part s
part_cleared xs left r q s e b = subst (λ w. Begins xs left w w.part s) (sym e) (record { given = b.given; gave = b.gave; len = b.len; goes = b.goes })

pub part_whole : (xs : List ℕ) (left : Option (List ℕ)) (r q : LinesModel) (s : Stage) → q ≡ record r { line = r.part } → HasLine xs left r r.part s → HasLine xs left q q.line s
part_whole xs left r q s e b = subst (λ w. HasLine xs left w w.line s) (sym e) (record { given = b.given; gave = b.gave; len = b.len; goes = b.goes })

-- the current line is accepted, or rejected
pub line_taken : (xs : List ℕ) (left : Option (List ℕ)) (r : LinesModel) (line : List ℕ) (s t : Stage) → HasLine xs left r line s → step s line ≡ Ok t → Reaches xs left r t
line_taken xs left r line s t b e = record { given = b.given; gave = b.gave; len = b.len; goes = λ more. b.goes more ∙ rw e refl }

returned : (xs : List ℕ) (left : Option (List ℕ)) (n : ℕ) (f : LineFault) → parse_result TRACE_MAX xs ≡ Err (fault_of_line n f) → Returns TRACE_MAX xs left (Err (fault_of_line n f))
returned xs left n line_faults.Bad e = e
returned xs left n (line_faults.Refused r) e = e
returned xs left n (line_faults.WrongReply r) e = e

pub line_refused : (xs : List ℕ) (left : Option (List ℕ)) (r : LinesModel) (line : List ℕ) (s : Stage) (f : LineFault) → HasLine xs left r line s → step s line ≡ Err f → r.taken ≤ TRACE_MAX → Returns TRACE_MAX xs left (Err (fault_of_line r.number f))
line_refused xs left r line s f b e small =
    returned xs left r.number f (fault_of xs left b.given (r.behind ++ r.over) (fault_of_line r.number f) b.gave (omega (arith, b.len)) (λ more. b.goes more ∙ rw e refl))

-- THE ENDS OF A TEXT

-- the part of a line has no fault, before the last line
rests : (n : ℕ) (s : Stage) (part : List ℕ) → is_ended s ≡ false → All (λ b. b ≢ 10) part → length part ≤ 8192 → parse_from n s (lines_of_text (part ++ [])) ≡ Ok (record { stage = s; number = n; part = part })
rests n s part going plain short = goes_rest n s part plain short ∙ rw going refl

-- and the text may not end there
not_whole : (s : Stage) (n : ℕ) (part : List ℕ) → is_ended s ≡ false → ended_at (record { stage = s; number = n; part = part }) ≡ Err Unfinished
unfolding is_ended
not_whole Opening n [] going = refl
not_whole (Limiting v) n [] going = refl
not_whole (Declaring h) n [] going = refl
not_whole (Running t) n [] going = refl
not_whole (Ended t) n [] going = cc
not_whole s n (b ∷ part) going =
    let some : eqb (length (b ∷ part)) 0 ≡ false = grind (arith, nat_tests) in
    cond-false _ _ _ some

module _ (xs : List ℕ) (r : LinesModel) (s : Stage) (part : List ℕ) where
  -- the text ends in a line
  pub line_unfinished : (left : Option (List ℕ)) → Begins xs left r part s → is_ended s ≡ false → r.behind ≡ [] → r.over ≡ [] → IsAtEnd left → r.taken ≤ TRACE_MAX → All (λ b. b ≢ 10) part → length part ≤ 8192 → parse_result TRACE_MAX xs ≡ Err Unfinished
  line_unfinished left b going none over end small plain short =
      let gave : Consumes (Some xs) left b.given = subst (Consumes (Some xs) left) (rw (none, over) (append-nil b.given)) b.gave in
      whole_of xs left b.given (record { stage = s; number = r.number + 1; part = part }) gave end (omega (arith, b.len)) (b.goes [] ∙ rests (r.number + 1) s part going plain short) ∙ not_whole s (r.number + 1) part going

  -- the bound of a text is in a line
  pub line_large : (left : Option (List ℕ)) → Begins xs left r part s → is_ended s ≡ false → r.behind ≡ [] → 0 < length r.over → r.taken ≡ TRACE_MAX → All (λ b. b ≢ 10) part → length part ≤ 8192 → parse_result TRACE_MAX xs ≡ Err TooLarge
  line_large left b going none over full plain short =
      let gave : Consumes (Some xs) left (b.given ++ r.over) = subst (λ (w : List ℕ). Consumes (Some xs) left (b.given ++ (w ++ r.over))) none b.gave in
      large_of xs left b.given r.over (record { stage = s; number = r.number + 1; part = part }) gave (omega (arith, b.len)) over (b.goes [] ∙ rests (r.number + 1) s part going plain short)

  -- a read fails in a line
  pub line_cut_off : (left after : Option (List ℕ)) → Begins xs left r part s → is_ended s ≡ false → r.behind ≡ [] → r.over ≡ [] → Keeps left after → r.taken ≤ TRACE_MAX → All (λ b. b ≢ 10) part → length part ≤ 8192 → Returns TRACE_MAX xs after (Err Read)
  line_cut_off left after b going none over kept small plain short =
      let gave : Consumes (Some xs) left b.given = subst (Consumes (Some xs) left) (rw (none, over) (append-nil b.given)) b.gave in
      failed_of xs left after b.given (record { stage = s; number = r.number + 1; part = part }) gave kept (omega (arith, b.len)) (b.goes [] ∙ rests (r.number + 1) s part going plain short)

module _ (xs : List ℕ) (r : LinesModel) (t : TraceModel) where
  -- nothing follows the last line
  rests_ended : parse_from (r.number + 1) (Ended t) (lines_of_text ([] ++ [])) ≡ Ok (record { stage = Ended t; number = r.number + 1; part = [] })
  unfolding is_ended
  rests_ended = goes_rest (r.number + 1) (Ended t) [] (All-nil (λ b. b ≢ 10)) (omega arith)

  pub text_whole : (left : Option (List ℕ)) → Reaches xs left r (Ended t) → r.behind ≡ [] → r.over ≡ [] → IsAtEnd left → r.taken ≤ TRACE_MAX → parse_result TRACE_MAX xs ≡ Ok t
  text_whole left b none over end small =
      let gave : Consumes (Some xs) left b.given = subst (Consumes (Some xs) left) (rw (none, over) (append-nil b.given)) b.gave in
      whole_of xs left b.given (record { stage = Ended t; number = r.number + 1; part = [] }) gave end (omega (arith, b.len)) (b.goes [] ∙ rests_ended)

  pub text_large : (left : Option (List ℕ)) → Reaches xs left r (Ended t) → r.behind ≡ [] → 0 < length r.over → r.taken ≡ TRACE_MAX → parse_result TRACE_MAX xs ≡ Err TooLarge
  text_large left b none over full =
      let gave : Consumes (Some xs) left (b.given ++ r.over) = subst (λ (w : List ℕ). Consumes (Some xs) left (b.given ++ (w ++ r.over))) none b.gave in
      large_of xs left b.given r.over (record { stage = Ended t; number = r.number + 1; part = [] }) gave (omega (arith, b.len)) over (b.goes [] ∙ rests_ended)

  pub text_cut_off : (left after : Option (List ℕ)) → Reaches xs left r (Ended t) → r.behind ≡ [] → r.over ≡ [] → Keeps left after → r.taken ≤ TRACE_MAX → Returns TRACE_MAX xs after (Err Read)
  text_cut_off left after b none over kept small =
      let gave : Consumes (Some xs) left b.given = subst (Consumes (Some xs) left) (rw (none, over) (append-nil b.given)) b.gave in
      failed_of xs left after b.given (record { stage = Ended t; number = r.number + 1; part = [] }) gave kept (omega (arith, b.len)) (b.goes [] ∙ rests_ended)

  -- something follows it
  behind_last : (left : Option (List ℕ)) (c : ℕ) (behind : List ℕ) → Reaches xs left r (Ended t) → r.behind ≡ c ∷ behind → r.taken + length r.behind ≤ TRACE_MAX → parse_result TRACE_MAX xs ≡ Err (BadLine (r.number + 1))
  unfolding is_ended
  behind_last left c behind b e small =
      fault_of xs left (b.given ++ r.behind) ([] ++ r.over) (BadLine (r.number + 1)) (gives_more xs left b.given r.behind r.over r.behind [] b.gave (sym (append-nil r.behind)))
      (omega (arith, b.len, length-append b.given r.behind))
      (λ more. ap (goes_from start) (append_assoc b.given r.behind more ∙ ap (λ (w : List ℕ). b.given ++ (w ++ more)) e) ∙ b.goes (c ∷ (behind ++ more)) ∙ goes_ended (r.number + 1) (Ended t) c (behind ++ more) refl)

  behind_is : (left : Option (List ℕ)) (behind : List ℕ) → Reaches xs left r (Ended t) → r.behind ≡ behind → 0 < length behind → r.taken + length r.behind ≤ TRACE_MAX → parse_result TRACE_MAX xs ≡ Err (BadLine (r.number + 1))
  behind_is left [] b e some small = absurd (omega arith)
  behind_is left (c ∷ behind) b e some small = behind_last left c behind b e small

  pub text_too_long : (left : Option (List ℕ)) → Reaches xs left r (Ended t) → 0 < length r.behind → r.taken + length r.behind ≤ TRACE_MAX → parse_result TRACE_MAX xs ≡ Err (BadLine (r.number + 1))
  text_too_long left b some small = behind_is left r.behind b refl some small
