-- Equal answers in two versions, call for call: document 02, Four, versions 2 and 3; Six, versions 3 and 4 with the flag 0.
use Rattle.std.specs.Prelude.{Some}
use Prim.Native.Nat.{ℕ, ◌+◌, ◌*◌, ◌≤◌}
use mathlib.Core.Path.{◌≡◌, refl, sym, ap, subst, ◌∙◌}
use mathlib.Core.Bool.{true}
use mathlib.Core.List.{List, [], ◌∷◌, ◌++◌}
use native.Mathlib.Omega.{arith}
use lib.ListN.{length, drop, get_or, length-append, get_or-append}
use lib.Seq.{drop_at, get_or-append_seam}
use Rattle.codec.specs.Bytes.{be_bytes}
use Rattle.codec.proofs.Laws.{length_be_bytes}
use Rattle.card.specs.Version.{known_version, shows_hydronic_time, lists_services, sets_floor}
use Rattle.card.specs.Extension.{Extension}
use Rattle.card.specs.declared.Card.{Card}
use Rattle.battery.specs.Battery.{fresh}
use Rattle.battery.specs.Call.{call_in_range}
use Rattle.battery.specs.declared.Battery.{Battery}
use Rattle.battery.specs.declared.Call.{Call}
use Rattle.battery.specs.declared.Call.TheVariants.{DemandEnergy, ChargeElectric, ChargeHydronic, HeatLoss, CloseTimestep, ReadStateOfCharge, ChargeEnergyDemand}
use Rattle.battery.specs.declared.Answer.{Answer}
use Rattle.engine_replies.specs.Replies.{charged_time}
use Rattle.engine.specs.Steps.{charge, step_of}
use Rattle.sheet_records.specs.Cards.{flag_place, flag_length, card_length, card_at, floor_at, services_at, extension_at}
use Rattle.sheet_records.proofs.CardLaws.{services_front}
use Rattle.sheet_records.specs.Records.{state_bytes, record_bytes}
use Rattle.sheet_calls.specs.Calls.{call_of}
use Rattle.sheet_calls.proofs.CallLaws.{same_call}
use Rattle.sheet_lines.specs.Answers.{answer_bytes}
use Rattle.sheet_lines.proofs.CardFront.{card_at_front}
use Rattle.sheet_lines.specs.Lines.{line_length, line_bytes}
use Rattle.entries.specs.Entry.{After, unchanged, opened_with, open_of}
use Rattle.entries.proofs.Opening.{open_known_lem, opened}
use Rattle.heat_battery.proofs.AnyVersion.{opens_exactly}
use Rattle.heat_battery.specs.Entries.{entry_of}
use Rattle.heat_battery.specs.Lists.{ListedCall, AllGiven, entry_to, no_line, free_rest, Encoded}
use Rattle.heat_battery.proofs.Encodings.{lined, Entered, kept_10, kept_11, stepped, entry_on_encoding, read_not_ten, step_encoded, gets_line, line_taken_lem, free_rest_lem}
use Rattle.heat_battery.proofs.EqualSteps.{given_is, nothing_used, fresh_encoded}
use Rattle.promises.specs.TwoVersions.{Every, in_version, widened, NoEleven, Answered, answered_by, answers_of, opened_record, opened_rest}
use Rattle.promises.specs.Requests.{EqualAnswers, EqualWithoutFloor}
use Rattle.promises.proofs.Widened.{widened_read, same_layout}

-- ---- the steps, the ranges and the answers' bytes are the same

steps_same : (new old : ℕ) → shows_hydronic_time new ≡ shows_hydronic_time old → (b : Battery) (c : Call) → step_of new b c ≡ step_of old b c
unfolding step_of charge charged_time
steps_same new old e b (DemandEnergy d) = refl
steps_same new old e b (ChargeElectric power target) = rw e
steps_same new old e b (ChargeHydronic w) = rw e
steps_same new old e b (HeatLoss floor) = refl
steps_same new old e b CloseTimestep = refl
steps_same new old e b ReadStateOfCharge = refl
steps_same new old e b (ChargeEnergyDemand most target) = refl

range_same : (new old : ℕ) (card : Card) (c : Call) → call_in_range new card c ≡ call_in_range old card c
unfolding call_in_range
range_same new old card (DemandEnergy d) = refl
range_same new old card (ChargeElectric power target) = refl
range_same new old card (ChargeHydronic w) = refl
range_same new old card (HeatLoss floor) = refl
range_same new old card CloseTimestep = refl
range_same new old card ReadStateOfCharge = refl
range_same new old card (ChargeEnergyDemand most target) = refl

bytes_same : (new old : ℕ) (s : Answer) → answer_bytes new s ≡ answer_bytes old s
unfolding answer_bytes state_bytes
bytes_same new old s = refl

-- ---- what a call answers

-- 10: no line
ten : (call rec free : List ℕ) → answered_by call (unchanged 10 rec free) ≡ record { code = 10; shown = [] }
unfolding answered_by no_line
ten call rec free = refl

-- a line's answer stands after the call's own bytes
after_call : (version : ℕ) (call : List ℕ) (s : Answer) → drop (2 + length call) (line_bytes version call s) ≡ answer_bytes version s
unfolding line_bytes
after_call version call s =
    let n = be_bytes 2 (line_length version s.battery.card (length call)) in
    let two = length_be_bytes 2 (line_length version s.battery.card (length call)) in
    drop_at (n ++ call) (answer_bytes version s) (2 + length call) (length-append n call ∙ ap (λ (k : ℕ). k + length call) two)

module _ (version : ℕ) (card : List ℕ) (b : Battery) (rec : List ℕ) (e : Encoded version card b rec) (call free : List ℕ) (c : Call) (k : call_of version (extension_at version card) call ≡ Some c) where
  line_answers : answered_by call (lined version card call free (step_of version b c)) ≡ record { code = (step_of version b c).refusal; shown = answer_bytes version (step_of version b c) }
  unfolding answered_by
  line_answers = rw (gets_line version card b rec e call free c k, line_taken_lem version card b rec e call free c k, after_call version call (step_of version b c))

-- one call more, by what its entry left
answers_more : (rec free : List ℕ) (call : ListedCall) (calls : List ListedCall) (a : After) → entry_to rec free call ≡ a
    → answers_of rec free (call ∷ calls) ≡ answered_by call.bytes a ∷ answers_of a.record' (free_rest a) calls
unfolding answers_of
answers_more rec free call calls a e = ap (λ (x : After). answered_by call.bytes x ∷ answers_of x.record' (free_rest x) calls) e

eleven_more : (rec free : List ℕ) (call : ListedCall) (calls : List ListedCall) (a : After) → entry_to rec free call ≡ a → NoEleven rec free (call ∷ calls) → NoEleven a.record' (free_rest a) calls
eleven_more rec free call calls a e n = subst (λ (x : After). NoEleven x.record' (free_rest x) calls) e n.1

not_eleven : {A : Type 0} (rec free : List ℕ) (call : ListedCall) (calls : List ListedCall) → entry_to rec free call ≡ unchanged 11 rec free → NoEleven rec free (call ∷ calls) → A
not_eleven rec free call calls e n = absurd (n.0 (ap (λ (x : After). x.code) e))

-- ---- a list of calls on two encodings of one battery

module _ (old new : ℕ) (known-old : known_version old ≡ true) (known-new : known_version new ≡ true) (times : shows_hydronic_time new ≡ shows_hydronic_time old) (turn : List ℕ → List ℕ) (fields card : List ℕ)
    (Admitted : ListedCall → Type 0) (read_alike : (call : ListedCall) → Admitted call → call_of new (extension_at new card) (turn call.bytes) ≡ call_of old (extension_at old fields) call.bytes) where
  abbrev Equal : List ListedCall → Battery → Type 0
  Equal calls b =
      (rec₁ free₁ rec₂ free₂ : List ℕ) → Encoded old fields b rec₁ → Encoded new card b rec₂ → NoEleven rec₁ free₁ calls → NoEleven rec₂ free₂ (in_version new turn calls)
      → answers_of rec₁ free₁ calls ≡ answers_of rec₂ free₂ (in_version new turn calls)

  module _ (call : ListedCall) (given : call.version ≡ old) (first : Admitted call) (calls : List ListedCall) (b : Battery)
      (rec₁ free₁ rec₂ free₂ : List ℕ) (e₁ : Encoded old fields b rec₁) (e₂ : Encoded new card b rec₂) (n₁ : NoEleven rec₁ free₁ (call ∷ calls)) where
    abbrev wide : ListedCall
    wide = record { version = new; bytes = turn call.bytes }

    reads : call_of new (extension_at new card) (turn call.bytes) ≡ call_of old (extension_at old fields) call.bytes
    reads = read_alike call first

    -- neither gets a line
    both_ten : NoEleven rec₂ free₂ (wide ∷ in_version new turn calls) → entry_of old rec₁ call.bytes free₁ ≡ unchanged 10 rec₁ free₁ → entry_of new rec₂ (turn call.bytes) free₂ ≡ unchanged 10 rec₂ free₂
        → Equal calls b → answers_of rec₁ free₁ (call ∷ calls) ≡ answers_of rec₂ free₂ (wide ∷ in_version new turn calls)
    unfolding no_line
    both_ten n₂ h₁ h₂ ih =
        let g₁ = given_is old rec₁ free₁ call given (unchanged 10 rec₁ free₁) h₁ in
        let f₁ = nothing_used rec₁ free₁ 10 refl in
        let f₂ = nothing_used rec₂ free₂ 10 refl in
        let m₁ = subst (λ (x : List ℕ). NoEleven rec₁ x calls) f₁ (eleven_more rec₁ free₁ call calls (unchanged 10 rec₁ free₁) g₁ n₁) in
        let m₂ = subst (λ (x : List ℕ). NoEleven rec₂ x (in_version new turn calls)) f₂ (eleven_more rec₂ free₂ wide (in_version new turn calls) (unchanged 10 rec₂ free₂) h₂ n₂) in
        answers_more rec₁ free₁ call calls (unchanged 10 rec₁ free₁) g₁ ∙ rw (f₁, ten call.bytes rec₁ free₁, ih rec₁ free₁ rec₂ free₂ e₁ e₂ m₁ m₂)
        (sym (answers_more rec₂ free₂ wide (in_version new turn calls) (unchanged 10 rec₂ free₂) h₂ ∙ rw (f₂, ten (turn call.bytes) rec₂ free₂)))

    -- both get the step's line
    module _ (c : Call) (k₁ : call_of old (extension_at old fields) call.bytes ≡ Some c) (h₁ : entry_of old rec₁ call.bytes free₁ ≡ lined old fields call.bytes free₁ (step_of old b c))
        (h₂ : entry_of new rec₂ (turn call.bytes) free₂ ≡ lined new card (turn call.bytes) free₂ (step_of new b c)) where
      abbrev s₁ : Answer
      s₁ = step_of old b c

      abbrev s₂ : Answer
      s₂ = step_of new b c

      k₂ : call_of new (extension_at new card) (turn call.bytes) ≡ Some c
      k₂ = reads ∙ k₁

      abbrev rest₁ : List ℕ
      rest₁ = drop (length (line_bytes old call.bytes s₁)) free₁

      abbrev rest₂ : List ℕ
      rest₂ = drop (length (line_bytes new (turn call.bytes) s₂)) free₂

      both_lined : NoEleven rec₂ free₂ (wide ∷ in_version new turn calls) → Equal calls s₁.battery → answers_of rec₁ free₁ (call ∷ calls) ≡ answers_of rec₂ free₂ (wide ∷ in_version new turn calls)
      both_lined n₂ ih =
          let a₁ = lined old fields call.bytes free₁ s₁ in
          let a₂ = lined new card (turn call.bytes) free₂ s₂ in
          let g₁ = given_is old rec₁ free₁ call given a₁ h₁ in
          let st = steps_same new old times b c in
          let f₁ = free_rest_lem old fields b rec₁ e₁ call.bytes free₁ c k₁ in
          let f₂ = free_rest_lem new card b rec₂ e₂ (turn call.bytes) free₂ c k₂ in
          let m₁ = subst (λ (x : List ℕ). NoEleven (record_bytes old fields s₁.battery) x calls) f₁ (eleven_more rec₁ free₁ call calls a₁ g₁ n₁) in
          let m₂ = subst (λ (x : List ℕ). NoEleven (record_bytes new card s₂.battery) x (in_version new turn calls)) f₂ (eleven_more rec₂ free₂ wide (in_version new turn calls) a₂ h₂ n₂) in
          let t₂ = subst (λ (x : Battery). Encoded new card x (record_bytes new card s₂.battery)) (ap (λ (x : Answer). x.battery) st) (step_encoded new card b rec₂ e₂ c) in
          let others = ih (record_bytes old fields s₁.battery) rest₁ (record_bytes new card s₂.battery) rest₂ (step_encoded old fields b rec₁ e₁ c) t₂ m₁ m₂ in
          let l₁ = line_answers old fields b rec₁ e₁ call.bytes free₁ c k₁ in
          let l₂ = line_answers new card b rec₂ e₂ (turn call.bytes) free₂ c k₂ in
          let same : answered_by call.bytes a₁ ≡ answered_by (turn call.bytes) a₂ =
          l₁ ∙ sym (l₂ ∙ ap (λ (x : Answer). record { code = x.refusal; shown = answer_bytes new x }) st ∙ ap (λ (x : List ℕ). record { code = s₁.refusal; shown = x }) (bytes_same new old s₁)) in
          answers_more rec₁ free₁ call calls a₁ g₁ ∙ ap (λ (x : List ℕ). answered_by call.bytes a₁ ∷ answers_of (record_bytes old fields s₁.battery) x calls) f₁
          ∙ ap (λ (x : List Answered). answered_by call.bytes a₁ ∷ x) others ∙ ap (λ (x : Answered). x ∷ answers_of (record_bytes new card s₂.battery) rest₂ (in_version new turn calls)) same
          ∙ sym (answers_more rec₂ free₂ wide (in_version new turn calls) a₂ h₂ ∙ ap (λ (x : List ℕ). answered_by (turn call.bytes) a₂ ∷ answers_of (record_bytes new card s₂.battery) x (in_version new turn calls)) f₂)

    one_more : ((b' : Battery) → Equal calls b') → NoEleven rec₂ free₂ (wide ∷ in_version new turn calls) → Entered old fields b rec₁ call.bytes free₁ → Entered new card b rec₂ (turn call.bytes) free₂
        → answers_of rec₁ free₁ (call ∷ calls) ≡ answers_of rec₂ free₂ (wide ∷ in_version new turn calls)
    one_more ih n₂ (kept_11 h) w = not_eleven rec₁ free₁ call calls (given_is old rec₁ free₁ call given (unchanged 11 rec₁ free₁) h) n₁
    one_more ih n₂ (kept_10 h) (kept_11 l) = not_eleven rec₂ free₂ wide (in_version new turn calls) l n₂
    one_more ih n₂ (kept_10 h) (kept_10 l) = both_ten n₂ h l (ih b)
    one_more ih n₂ (kept_10 h) (stepped c k i l room) =
        absurd (read_not_ten old fields b rec₁ e₁ known-old call.bytes free₁ c (sym reads ∙ k) (sym (range_same new old b.card c) ∙ i) (ap (λ (x : After). x.code) h))
    one_more ih n₂ (stepped c k i h room) (kept_11 l) = not_eleven rec₂ free₂ wide (in_version new turn calls) l n₂
    one_more ih n₂ (stepped c k i h room) (kept_10 l) =
        absurd (read_not_ten new card b rec₂ e₂ known-new (turn call.bytes) free₂ c (reads ∙ k) (range_same new old b.card c ∙ i) (ap (λ (x : After). x.code) l))
    one_more ih n₂ (stepped c k i h room) (stepped d m j l rest) =
        both_lined c k h (subst (λ (x : Call). entry_of new rec₂ (turn call.bytes) free₂ ≡ lined new card (turn call.bytes) free₂ (step_of new b x)) (same_call (call_of new (extension_at new card) (turn call.bytes)) (reads ∙ k) m) l)
        n₂ (ih (step_of old b c).battery)

  pub same_answers : (calls : List ListedCall) → AllGiven old calls → Every Admitted calls → (b : Battery) → Equal calls b
  unfolding answers_of in_version
  same_answers [] given first b rec₁ free₁ rec₂ free₂ e₁ e₂ n₁ n₂ = refl
  same_answers (call ∷ calls) given first b rec₁ free₁ rec₂ free₂ e₁ e₂ n₁ n₂ =
      one_more call given.0 first.0 calls b rec₁ free₁ rec₂ free₂ e₁ e₂ n₁ (λ b'. same_answers calls given.1 first.1 b') n₂
      (entry_on_encoding old fields b rec₁ e₁ known-old call.bytes free₁) (entry_on_encoding new card b rec₂ e₂ known-new (turn call.bytes) free₂)

-- ---- from opening on

opened_is : (version : ℕ) (card rec free : List ℕ) → (open_of version card rec free).code ≡ 0 → open_of version card rec free ≡ opened_with version card free
opened_is version card rec free o =
    let h = (opens_exactly version card rec free).0 o in
    open_known_lem version card rec free h.0 ∙ opened version card rec free h.1.card_good.long h.1.card_good.accepted h.1.long h.1.room

opened_encoded : (version : ℕ) (card rec free : List ℕ) → (open_of version card rec free).code ≡ 0 → Encoded version card (fresh (card_at version card)) (opened_record version card rec free)
opened_encoded version card rec free o =
    subst (Encoded version card (fresh (card_at version card))) (sym (ap (λ (x : After). x.record') (opened_is version card rec free o)))
    (fresh_encoded version card ((opens_exactly version card rec free).0 o).1.card_good)

-- the card's fields are read alike, whatever stands behind them
card_same : (new old : ℕ) (bs : List ℕ) → card_at new bs ≡ card_at old bs
unfolding card_at
card_same new old bs = refl

module _ (old new : ℕ) (fields list : List ℕ) (rec₁ free₁ rec₂ free₂ : List ℕ) (o₁ : (open_of old fields rec₁ free₁).code ≡ 0) (o₂ : (open_of new (fields ++ list) rec₂ free₂).code ≡ 0) where
  own_length : length fields ≡ card_length old fields
  own_length = ((opens_exactly old fields rec₁ free₁).0 o₁).1.card_good.long

  card_alike : card_at new (fields ++ list) ≡ card_at old fields
  card_alike = card_same new old (fields ++ list) ∙ card_at_front old fields list (omega (arith, own_length))

  second_encoded : Encoded new (fields ++ list) (fresh (card_at old fields)) (opened_record new (fields ++ list) rec₂ free₂)
  second_encoded = subst (λ (x : Card). Encoded new (fields ++ list) (fresh x) (opened_record new (fields ++ list) rec₂ free₂)) card_alike (opened_encoded new (fields ++ list) rec₂ free₂ o₂)

-- neither version has a flag
no_flag : (bs fields : List ℕ) → (extension_at 3 bs).floor ≡ (extension_at 2 fields).floor
unfolding floor_at sets_floor
no_flag bs fields = refl

pub equal_answers : EqualAnswers
unfolding known_version shows_hydronic_time
equal_answers fields list rec₂ free₂ rec₃ free₃ calls o₂ o₃ given first n₂ n₃ =
    same_answers 2 3 refl refl refl widened fields (fields ++ list) (λ call. get_or call.bytes 0 0 ≡ 1 → get_or call.bytes 1 0 ≤ 3)
    (λ call h. widened_read (extension_at 3 (fields ++ list)) (extension_at 2 fields) (no_flag (fields ++ list) fields) call.bytes h)
    calls given first (fresh (card_at 2 fields)) (opened_record 2 fields rec₂ free₂) (opened_rest 2 fields rec₂ free₂)
    (opened_record 3 (fields ++ list) rec₃ free₃) (opened_rest 3 (fields ++ list) rec₃ free₃) (opened_encoded 2 fields rec₂ free₂ o₂)
    (second_encoded 2 3 fields list rec₂ free₂ rec₃ free₃ o₂ o₃) n₂ n₃

-- ---- the flag 0 behind a version 3 card

-- its place is the card's length
flag_behind : (card : List ℕ) → length card ≡ card_length 3 card → flag_place card ≡ length card
unfolding card_length flag_length lists_services sets_floor
flag_behind card l = omega (arith, l)

flag_read : (card : List ℕ) → length card ≡ card_length 3 card → floor_at 4 (card ++ (0 ∷ [])) ≡ 0
unfolding floor_at sets_floor
flag_read card l =
    let b = flag_behind card l in
    let p : flag_place (card ++ (0 ∷ [])) ≡ length card = ap (λ (n : ℕ). 159 + 3 * n) (get_or-append card (0 ∷ []) 0 158 (omega (arith, b))) ∙ b in
    ap (λ (n : ℕ). get_or (card ++ (0 ∷ [])) n 0) p ∙ get_or-append_seam card 0 [] 0

services_alike : (bs : List ℕ) → services_at 4 bs ≡ services_at 3 bs
unfolding services_at lists_services
services_alike bs = refl

flag_absent : (bs : List ℕ) → floor_at 3 bs ≡ 0
unfolding floor_at sets_floor
flag_absent bs = refl

extension_same : (card : List ℕ) → length card ≡ card_length 3 card → extension_at 4 (card ++ (0 ∷ [])) ≡ extension_at 3 card
extension_same card l = λ i. record { services = (services_alike (card ++ (0 ∷ [])) ∙ services_front 3 card (0 ∷ []) (omega (arith, l))) i; floor = (flag_read card l ∙ sym (flag_absent card)) i }

every_call : (calls : List ListedCall) → Every (λ call. Unit) calls
every_call [] = tt
every_call (call ∷ calls) = (tt, every_call calls)

pub equal_without_floor : EqualWithoutFloor
unfolding known_version shows_hydronic_time
equal_without_floor card rec₃ free₃ rec₄ free₄ calls o₃ o₄ given n₃ n₄ =
    let l = own_length 3 4 card (0 ∷ []) rec₃ free₃ rec₄ free₄ o₃ o₄ in
    same_answers 3 4 refl refl refl (λ bs. bs) card (card ++ (0 ∷ [])) (λ call. Unit)
    (λ call h. same_layout (extension_at 4 (card ++ (0 ∷ []))) call.bytes ∙ ap (λ (e : Extension). call_of 3 e call.bytes) (extension_same card l))
    calls given (every_call calls) (fresh (card_at 3 card)) (opened_record 3 card rec₃ free₃) (opened_rest 3 card rec₃ free₃)
    (opened_record 4 (card ++ (0 ∷ [])) rec₄ free₄) (opened_rest 4 (card ++ (0 ∷ [])) rec₄ free₄) (opened_encoded 3 card rec₃ free₃ o₃)
    (second_encoded 3 4 card (0 ∷ []) rec₃ free₃ rec₄ free₄ o₃ o₄) n₃ n₄
