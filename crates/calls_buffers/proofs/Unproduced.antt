-- Items that were taken out and not produced by then, and items that were put in twice.
use Rattle.std.proofs.Common.{◌≡◌, ℕ, zero, suc, ◌-◌, ◌<◌, ◌≤◌, ◌==◌, ◌&&◌, nat_le, Bool, true}
use Rattle.std.proofs.Common.{inl, inr, MatchOption}
use Rattle.std.proofs.Common.{false, cond, Option, Some, None, List, [], ◌∷◌, ◌++◌, length, get_or}
use Rattle.std.proofs.Common.{refl, ap, sym, ◌∙◌, subst, arith, count_by}
use Rattle.std.specs.List.{Contains}
use Rattle.std.specs.List.Sorted.{IsPermutation}
use Rattle.std.proofs.lemmas.Bool.{eq-eqb, le-leb, leb-true, leb-false, and_from}
use Rattle.std.proofs.lemmas.List.{get_or_default}
use Rattle.calls_core.specs.declared.history.PendingCall.{PendingCall}
use Rattle.calls_core.specs.declared.history.Call.{Call}
use Rattle.calls_core.proofs.Counting.{one_yes, one_no, one_less, count_cons, count_append}
use Rattle.calls_core.proofs.Counting.{count_moved}
use Rattle.std.specs.Option.{unwrap_or}
use Rattle.calls_core.specs.declared.history.Op.TheVariants.{Consume}
use Rattle.calls_buffers.specs.declared.accesses.Place.{Place}
use Rattle.calls_buffers.specs.declared.accesses.Place.TheVariants.{Completed, Pending}
use Rattle.calls_buffers.specs.declared.accesses.Access.{Access}
use Rattle.calls_buffers.specs.Counts.{item, all_puts, put_one, took_one}
use Rattle.calls_buffers.specs.Counts.{invoked_puts, completed_puts, pending_puts, returned_takes}
use Rattle.calls_buffers.specs.Accesses.{taken_item, put_item}
use Rattle.calls_buffers.specs.kept.Accesses.{Ascend, ByItem, IsRepeated, later}
use Rattle.calls_buffers.specs.Accesses.{accesses, asked}
use Rattle.calls_buffers.specs.kept.Accesses.{find_access}
use Rattle.calls_buffers.specs.Accesses.{no_access}
use Rattle.calls_buffers.specs.kept.Pairs.{fits_put, IsUnfit, IsUnproduced}
use Rattle.calls_buffers.proofs.Untaking.{took_item}
use Rattle.calls_buffers.proofs.Asking.{count_some}
use Rattle.calls_buffers.proofs.ByItems.{of_item, also, find_none, put_took, count_accesses}
use Rattle.calls_buffers.proofs.ByItems.{count_asked, count_found}
use Rattle.calls_buffers.specs.declared.windows.Window.{Window}
use Rattle.calls_buffers.specs.kept.Pairs.{ArePaired}
use Rattle.calls_buffers.specs.kept.Pairs.{AreNotPaired}
use Rattle.calls_buffers.specs.kept.Windows.{AreWindows}
use Rattle.calls_buffers.specs.Accesses.{AreWithin}
use Rattle.calls_buffers.proofs.AreWindows.{puts_counted, take_of, are_windows}

-- two neighbours that pass a test
count_two : (test : Access → Bool) (list : List Access) (j : ℕ) (d : Access)
    → suc j < length list → test (get_or list j d) ≡ true → test (get_or list (suc j) d) ≡ true
    → 2 ≤ count_by test list
count_two test [] j d lt a b = absurd (omega arith)
count_two test (x ∷ []) zero d lt a b = absurd (omega arith)
count_two test (x ∷ y ∷ list) zero d lt a b = omega (
  arith,
  count_cons test x (y ∷ list),
  count_cons test y list,
  one_yes (test x) a,
  one_yes (test y) b,
)
count_two test (x ∷ list) (suc j) d lt a b = omega (
  arith,
  count_cons test x list,
  count_two test list j d (omega arith) a b,
)

also_less : (g : Access → Bool) (v : ℕ) (list : List Access)
    → count_by (also g v) list ≤ count_by (of_item v) list
also_less g v [] = omega arith
also_less g v (a ∷ list) = omega (
  arith,
  count_cons (also g v) a list,
  count_cons (of_item v) a list,
  one_less (also g v a) (of_item v a) (first (of_item v a) (g a)),
  also_less g v list,
)
  where
    first : (b c : Bool) → (b && c) ≡ true → b ≡ true
    first true c e = refl
    first false c e = e

abbrev by_first : ℕ → Access → Bool
by_first n a = nat_le a.first n

abbrev by_last : ℕ → Access → Bool
by_last n a = nat_le a.last n

-- the neighbours of one item
record Neighbours (list : List Access) (i : ℕ) : Type 0 where
  value : ℕ
  before : (get_or list (i - 1) no_access).item ≡ value
  after : (get_or list i no_access).item ≡ value

neighbours : (list : List Access) (i : ℕ) → ByItem list → IsRepeated list i → Neighbours list i
neighbours list i up h = record {
  value = (get_or list i no_access).item;
  before = omega (
    arith,
    h.no_more no_access,
    up (i - 1) i no_access (omega arith) h.high,
  );
  after = refl;
}

pair_counted : (test : Access → Bool) (list : List Access) (i : ℕ) → IsRepeated list i
    → test (get_or list (i - 1) no_access) ≡ true → test (get_or list i no_access) ≡ true
    → 2 ≤ count_by test list
pair_counted test list i h a b =
    let e : i ≡ suc (i - 1) = omega (arith, h.low) in
    count_two test list (i - 1) no_access (omega (arith, h.low, h.high)) a
    (subst (λ n. test (get_or list n no_access) ≡ true) e b)

module _ (end : ℕ) (done : List Call) (pending : List PendingCall) (puts takes : List Access)
    (puts_moved : IsPermutation (accesses put_item 0 done ++ asked end 0 pending) puts)
    (takes_moved : IsPermutation (accesses taken_item 0 done) takes) where
  -- an item that was put in twice
  pub put_twice : (i : ℕ) → ByItem puts → IsRepeated puts i
      → ((v : ℕ) → all_puts (item v) done pending ≤ 1) → ⊥
  put_twice i up h once =
      let two = neighbours puts i up h in
      let v = two.value in
      let x = get_or puts (i - 1) no_access in
      let y = get_or puts i no_access in
      omega (
        arith,
        once v,
        puts_counted end done pending puts takes puts_moved takes_moved v,
        pair_counted (of_item v) puts i h (eq-eqb x.item v two.before) (eq-eqb y.item v two.after),
      )

  invoked : (v n : ℕ) → count_by (also (by_first n) v) puts
      ≡ invoked_puts (item v) n done pending
  invoked v n =
      let made = accesses put_item 0 done in
      let others = asked end 0 pending in
      let one : count_by (also (by_first n) v) made ≡ completed_puts (item v) n done =
      count_accesses put_item put_one put_took v (by_first n) (λ (c : Call). nat_le c.first n)
      (λ i w c. refl) 0 done in
      let two : count_by (also (by_first n) v) others ≡ pending_puts (item v) n pending =
      count_asked end v (by_first n) (λ (o : PendingCall). nat_le o.first n) (λ i w o. refl) 0
      pending in
      omega (
        arith,
        count_moved (also (by_first n) v) (made ++ others) puts puts_moved,
        count_append (also (by_first n) v) made others,
        one,
        two,
      )

  returned : (v n : ℕ) → count_by (also (by_last n) v) takes ≡ returned_takes (item v) n done
  returned v n =
      let one : count_by (also (by_last n) v) (accesses taken_item 0 done)
      ≡ returned_takes (item v) n done = count_accesses taken_item took_one took_item v (by_last n)
      (λ (c : Call). nat_le c.last n) (λ i w c. refl) 0 done in
      count_moved (also (by_last n) v) (accesses taken_item 0 done) takes takes_moved ∙ one

  shown : (t : Access) → Contains takes t → (place : Place) → t.place ≡ place
      → count_by (also (by_first t.last) t.item) puts
      < count_by (also (by_last t.last) t.item) takes → IsUnproduced done pending place
  shown t h place e more =
      let take = take_of end done pending puts takes puts_moved takes_moved t h in
      let less : invoked_puts (item t.item) t.last done pending
      < returned_takes (item t.item) t.last done =
      omega (arith, invoked t.item t.last, returned t.item t.last, more) in
      record {
        index = take.index;
        at = sym e ∙ take.at;
        call = take.call;
        is = take.is;
        within = take.within;
        value = t.item;
        consume = take.consume;
        more = subst (λ n. invoked_puts (item t.item) n done pending
            < returned_takes (item t.item) n done) (sym take.last) less;
      }

  -- an item that was taken before it was produced
  pub unfit_shown : (place : Place) → Ascend puts → IsUnfit puts takes place
      → IsUnproduced done pending place
  unfit_shown place up h =
      let t = h.take in
      let some = count_some (also (by_last t.last) t.item) takes t h.known
      (and_from (t.item == t.item) (nat_le t.last t.last) (eq-eqb t.item t.item refl)
      (le-leb t.last t.last (omega arith))) in
      shown t h.known place h.at (omega (
        arith,
        some,
        none (find_access puts t.item) refl,
      ))
    where
      none : (o : Option Access) → find_access puts h.take.item ≡ o
          → count_by (also (by_first h.take.last) h.take.item) puts ≡ 0
      none None e = omega (
        arith,
        also_less (by_first h.take.last) h.take.item puts,
        find_none puts h.take.item e,
      )
      none (Some p) e =
          let late : nat_le p.first h.take.last ≡ false = sym (ap (fits_put h.take) e) ∙ h.not in
          count_found (by_first h.take.last) h.take.item puts p up e ∙ one_no
          (nat_le p.first h.take.last) late

  -- the later one of two consumes of an item
  twice : (i : ℕ) → IsRepeated takes i → (v : ℕ)
      → (get_or takes (i - 1) no_access).item ≡ v → (get_or takes i no_access).item ≡ v
      → ((w : ℕ) → all_puts (item w) done pending ≤ 1) → (t : Access) → Contains takes t
      → t.item ≡ v → (get_or takes (i - 1) no_access).last ≤ t.last
      → (get_or takes i no_access).last ≤ t.last → IsUnproduced done pending t.place
  twice i h v a b once t known is first second =
      let x = get_or takes (i - 1) no_access in
      let y = get_or takes i no_access in
      shown t known t.place refl (omega (
        arith,
        once t.item,
        puts_counted end done pending puts takes puts_moved takes_moved t.item,
        also_less (by_first t.last) t.item puts,
        pair_counted (also (by_last t.last) t.item) takes i h
            (and_from (x.item == t.item) (nat_le x.last t.last)
            (eq-eqb x.item t.item (a ∙ sym is)) (le-leb x.last t.last first))
            (and_from (y.item == t.item) (nat_le y.last t.last)
            (eq-eqb y.item t.item (b ∙ sym is)) (le-leb y.last t.last second)),
      ))

  -- an item that was taken twice
  pub repeated_shown : (i : ℕ) → ByItem takes → IsRepeated takes i
      → ((v : ℕ) → all_puts (item v) done pending ≤ 1) → IsUnproduced done pending (later takes i)
  repeated_shown i up h once =
      let two = neighbours takes i up h in
      let x = get_or takes (i - 1) no_access in
      let y = get_or takes i no_access in
      let low : i - 1 < length takes = omega (arith, h.low, h.high) in
      elim (nat_le x.last y.last) as (λ b. nat_le x.last y.last ≡ b
      → IsUnproduced done pending (cond b y.place x.place)) [
        | true ↦ λ q. twice i h two.value two.before two.after once y
            (i, h.high, get_or_default takes i y no_access h.high) two.after
            (leb-true x.last y.last q) (omega arith)
        | false ↦ λ q. twice i h two.value two.before two.after once x
            (i - 1, low, get_or_default takes (i - 1) x no_access low) two.before (omega arith)
            (omega (arith, leb-false x.last y.last q))
      ] refl

  -- WHAT IS LISTED

  pub windows_sound : (ws : List Window) → AreWithin end done pending
      → ArePaired end puts takes ws → AreWindows done pending end ws
  windows_sound ws within h = subst (AreWindows done pending end) (sym h.is)
      (are_windows end done pending puts takes puts_moved takes_moved within h.puts_ascend
      h.takes_ascend h.fit)

  pub windows_exact : (alone : Option Place) → ByItem puts → ByItem takes
      → ((v : ℕ) → all_puts (item v) done pending ≤ 1) → AreNotPaired puts takes alone
      → MatchOption alone ⊥ (IsUnproduced done pending)
  windows_exact alone up rises once (inl h) = absurd (put_twice h.index up h.repeated once)
  windows_exact alone up rises once (inr (inl h)) =
      subst (λ o. MatchOption o ⊥ (IsUnproduced done pending)) (sym h.at)
      (repeated_shown h.index rises h.repeated once)
  windows_exact None up rises once (inr (inr h)) = h.unfit
  windows_exact (Some place) up rises once (inr (inr h)) = unfit_shown place h.ascend h.unfit

-- A CALL THAT SHOWS IT

index_of : Place → ℕ
index_of (Completed i) = i
index_of (Pending i) = i

pub never_unproduced : (done : List Call) (pending : List PendingCall) (i : ℕ) (d x : Call) (v : ℕ)
    → IsUnproduced done pending (Completed i) → x ≡ get_or done i d
    → taken_item x.op x.reply ≡ Some v
    → returned_takes (item v) x.last done ≤ invoked_puts (item v) x.last done pending → ⊥
unfolding index_of
never_unproduced done pending i d x v h e is le =
    let same : x ≡ h.call = e ∙ ap (λ p. get_or done (index_of p) d) h.at ∙ h.is d in
    let own : taken_item h.call.op h.call.reply ≡ Some h.value =
    ap (λ op. taken_item op h.call.reply) h.consume.asks
    ∙ ap (taken_item Consume) h.consume.returns in
    let both : Some v ≡ Some h.value =
    sym is ∙ ap (λ (c : Call). taken_item c.op c.reply) same ∙ own in
    let values : v ≡ h.value = ap (λ o. unwrap_or o v) both in
    omega (
      arith,
      le,
      h.more,
      ap (λ w. returned_takes (item w) x.last done) values,
      ap (λ (c : Call). returned_takes (item h.value) c.last done) same,
      ap (λ w. invoked_puts (item w) x.last done pending) values,
      ap (λ (c : Call). invoked_puts (item h.value) c.last done pending) same,
    )
