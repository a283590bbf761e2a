-- What threads promise to return, and what they returned.
use Rattle.std.proofs.Common.{◌≡◌, ℕ, zero, suc, ◌+◌, true, false, take, List, [], ◌∷◌, ◌++◌, length, Option, Some, None, slice_get, refl, ap, sym, ◌∙◌, subst, Result, Ok, Err, MatchResult}
use Rattle.std.specs.Global.{Vec}
use Rattle.ec_machine.specs.declared.command.Command.{Command}
use Rattle.ec_machine.specs.Follows.{program_at}
use Rattle.ec_runner.specs.declared.run_fault.RunFault.{RunFault}
use Rattle.ec_runner.specs.declared.run_fault.RunFault.TheVariants as faults
use Rattle.ec_runner.specs.declared.summary.Summary.{Summary}
use Rattle.ec_runner.specs.Works.{IsSummaryOf}
use Rattle.ec_runner.specs.WorkPromises.{Handle, IsFor, AreFor, IsJoinResult, AreAllJoined, some_not_started, AreJoinResults, IsOneMore, AreSummariesOf, IsThreadFault}

for_more : (hs : List (Option Handle)) (programs : List (List Command)) (turns : ℕ) (h : Option Handle) (cs : List Command) → AreFor hs programs turns → IsFor h cs turns
    → AreFor (hs ++ h ∷ []) (programs ++ cs ∷ []) turns
for_more [] [] turns h cs a i = (i, tt)
for_more [] (p ∷ programs) turns h cs a i = absurd a
for_more (k ∷ hs) [] turns h cs a i = absurd a
for_more (k ∷ hs) (p ∷ programs) turns h cs a i = (a.0, for_more hs programs turns h cs a.1 i)

pub for_next : (hs now : List (Option Handle)) (programs : List (List Command)) (i turns : ℕ) (h : Option Handle) (cs : List Command)
    → AreFor hs (take i programs) turns → IsFor h cs turns → now ≡ hs ++ h ∷ [] → take (i + 1) programs ≡ take i programs ++ cs ∷ []
    → AreFor now (take (i + 1) programs) turns
for_next hs now programs i turns h cs a f is more =
    subst (λ (ps : List (List Command)). AreFor now ps turns) (sym more)
    (subst (λ (ks : List (Option Handle)). AreFor ks (take i programs ++ cs ∷ []) turns) (sym is) (for_more hs (take i programs) turns h cs a f))

kept_more : (hs : List (Option Handle)) (summaries : List Summary) (h : Option Handle) (t : Summary) → AreAllJoined hs summaries → IsJoinResult h (Some t) → AreAllJoined (hs ++ h ∷ []) (summaries ++ t ∷ [])
kept_more [] [] h t a i = (i, tt)
kept_more [] (p ∷ summaries) h t a i = absurd a
kept_more (k ∷ hs) [] h t a i = absurd a
kept_more (k ∷ hs) (p ∷ summaries) h t a i = (a.0, kept_more hs summaries h t a.1 i)

-- threads that returned were started
none_lacks : (hs : List (Option Handle)) (summaries : List Summary) → AreAllJoined hs summaries → some_not_started hs ≡ false
none_lacks [] summaries a = refl
none_lacks (None ∷ hs) [] a = absurd a
none_lacks (None ∷ hs) (t ∷ summaries) a = absurd a.0
none_lacks (Some h ∷ hs) [] a = absurd a
none_lacks (Some h ∷ hs) (t ∷ summaries) a = none_lacks hs summaries a.1

lacks_more : (hs : List (Option Handle)) → some_not_started (hs ++ None ∷ []) ≡ true
lacks_more [] = refl
lacks_more (None ∷ hs) = refl
lacks_more (Some h ∷ hs) = lacks_more hs

lacks_same : (hs : List (Option Handle)) (h : Handle)
    → some_not_started (hs ++ Some h ∷ []) ≡ some_not_started hs
lacks_same [] h = refl
lacks_same (None ∷ hs) h = refl
lacks_same (Some k ∷ hs) h = lacks_same hs h

still : (hs : List (Option Handle)) (h : Handle) (fault : RunFault) → AreJoinResults hs (Err fault) → AreJoinResults (hs ++ Some h ∷ []) (Err fault)
still hs h faults.Spawn a = lacks_same hs h ∙ a
still hs h faults.Memory a = lacks_same hs h ∙ a
still hs h (faults.Mismatch w) a = a

pushed : (hs : List (Option Handle)) (h : Handle) (summaries : Vec Summary) (summary : Summary) (all : Result (Vec Summary) RunFault) → AreAllJoined hs summaries.items → IsJoinResult (Some h) (Some summary)
    → MatchResult all (λ v. v.items ≡ summaries.items ++ summary ∷ []) (λ fault. fault ≡ faults.Memory) → AreJoinResults (hs ++ Some h ∷ []) all
pushed hs h summaries summary (Ok v) a j is = subst (λ (ts : List Summary). AreAllJoined (hs ++ Some h ∷ []) ts) (sym is) (kept_more hs summaries.items (Some h) summary a j)
pushed hs h summaries summary (Err fault) a j is =
    subst (λ (f : RunFault). AreJoinResults (hs ++ Some h ∷ []) (Err f)) (sym is) (lacks_same hs h ∙ none_lacks hs summaries.items a)

-- one thread more is joined
pub joined_next : (hs : List (Option Handle)) (h : Option Handle) (summaries : Result (Vec Summary) RunFault) (summary : Option Summary) (all : Result (Vec Summary) RunFault)
    → AreJoinResults hs summaries → IsJoinResult h summary → IsOneMore summaries summary all
    → AreJoinResults (hs ++ h ∷ []) all
joined_next hs None summaries None all a j more = subst (λ (r : Result (Vec Summary) RunFault). AreJoinResults (hs ++ None ∷ []) r) (sym more) (lacks_more hs)
joined_next hs None summaries (Some t) all a j more = absurd j
joined_next hs (Some h) summaries None all a j more = absurd j
joined_next hs (Some h) (Err fault) (Some t) all a j more = subst (λ (r : Result (Vec Summary) RunFault). AreJoinResults (hs ++ Some h ∷ []) r) (sym more) (still hs h fault a)
joined_next hs (Some h) (Ok summaries) (Some t) all a j more = pushed hs h summaries t all a j more

of_own : (h : Option Handle) (cs : List Command) (turns : ℕ) (t : Summary) → IsFor h cs turns → IsJoinResult h (Some t) → IsSummaryOf cs turns t
of_own None cs turns t i k = absurd k
of_own (Some h) cs turns t i k = subst (λ (n : ℕ). IsSummaryOf cs n t) i.1 (subst (λ (p : List Command). IsSummaryOf p h.promise.turns t) i.0 k)

told_of : (hs : List (Option Handle)) (programs : List (List Command)) (turns : ℕ) (summaries : List Summary) → AreFor hs programs turns → AreAllJoined hs summaries → AreSummariesOf programs turns summaries
told_of [] [] turns [] a k = tt
told_of [] [] turns (t ∷ summaries) a k = absurd k
told_of [] (p ∷ programs) turns summaries a k = absurd a
told_of (h ∷ hs) [] turns summaries a k = absurd a
told_of (h ∷ hs) (p ∷ programs) turns [] a k = absurd k
told_of (h ∷ hs) (p ∷ programs) turns (t ∷ summaries) a k = (of_own h p turns t a.0 k.0, told_of hs programs turns summaries a.1 k.1)

-- the summaries that the threads of these programs returned, or why there are none
pub all_told : (hs : List (Option Handle)) (programs : List (List Command)) (turns : ℕ) (r : Result (Vec Summary) RunFault) → AreFor hs programs turns → AreJoinResults hs r
    → MatchResult r (λ v. AreSummariesOf programs turns v.items) IsThreadFault
all_told hs programs turns (Ok v) a j = told_of hs programs turns v.items a j
all_told hs programs turns (Err faults.Spawn) a j = tt
all_told hs programs turns (Err faults.Memory) a j = tt
all_told hs programs turns (Err (faults.Mismatch w)) a j = absurd j

pub told_many : (programs : List (List Command)) (turns : ℕ) (summaries : List Summary) → AreSummariesOf programs turns summaries → length summaries ≡ length programs
told_many [] turns [] a = refl
told_many [] turns (t ∷ summaries) a = absurd a
told_many (p ∷ programs) turns [] a = absurd a
told_many (p ∷ programs) turns (t ∷ summaries) a =
    ap (λ n. suc n) (told_many programs turns summaries a.1)

some_is : (t u : Summary) → Some t ≡ Some u → t ≡ u
some_is t u h = cc

-- each summary is of the program at its index
pub told_at : (programs : List (List Command)) (turns : ℕ) (summaries : List Summary) (w : ℕ) (t : Summary) → AreSummariesOf programs turns summaries → slice_get summaries w ≡ Some t
    → IsSummaryOf (program_at programs w) turns t
told_at [] turns [] w t a is = cc
told_at [] turns (u ∷ summaries) w t a is = absurd a
told_at (p ∷ programs) turns [] w t a is = cc
told_at (p ∷ programs) turns (u ∷ summaries) zero t a is =
    subst (IsSummaryOf p turns) (some_is u t is) a.0
told_at (p ∷ programs) turns (u ∷ summaries) (suc w) t a is =
    told_at programs turns summaries w t a.1 is
