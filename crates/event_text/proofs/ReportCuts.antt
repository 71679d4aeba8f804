-- a report tells its book, its log, and the bytes sent and taken, and with its events its answers
use Rattle.std.proofs.Common.{◌≡◌, ℕ, ◌+◌, ◌<◌, ◌^◌, Bool, true, false, cond, Option, Some, None, IfSome, List, [], ◌∷◌, ◌++◌, map, codes, refl, sym, ap, subst, ◌∙◌, arith, append_assoc}
use Rattle.std.proofs.lemmas.Fmt.{decimal_is_IsNumeral}
use Rattle.std.proofs.lemmas.Slice.Eq.{bytes_eq-Decides}
use Rattle.std.proofs.lemmas.Str.Parse.{digit_from_value}
use Rattle.std.specs.Fmt.{decimal}
use Rattle.std.specs.List.{AllByRecursion}
use Rattle.std.specs.Str.{bytes_eq}
use Rattle.std.specs.Str.Parse.{AllDigits, digits_value}
use Rattle.host_hub.specs.BookSeen.{Seen, BookSeen}
use Rattle.host_hub.specs.declared.answers.CancelAnswer.TheVariants as cancel
use Rattle.host_hub.specs.declared.answers.DropAnswer.TheVariants as dropped
use Rattle.host_hub.specs.declared.book.BookEntry.{BookEntry}
use Rattle.host_hub.specs.declared.outcome.End.{End}
use Rattle.host_hub.specs.declared.refusals.AskFault.{AskFault}
use Rattle.host_hub.specs.declared.refusals.AskFault.TheVariants as refused
use Rattle.host_hub.specs.declared.refusals.ClearFault.{ClearFault}
use Rattle.host_hub.specs.declared.refusals.ClearFault.TheVariants as not_cleared
use Rattle.host_hub.specs.declared.service.Service.{Service}
use Rattle.instr_plain.specs.declared.log.LogEntry.{LogEntry}
use Rattle.event_text.specs.declared.answer.EventAnswer.{EventAnswer}
use Rattle.event_text.specs.declared.answer.EventAnswer.TheVariants.{Ticket, Refused, CancelSaid, DropSaid, NotCleared, Done}
use Rattle.event_text.specs.declared.event.Event.{Event}
use Rattle.event_text.specs.declared.event.Event.TheVariants as event
use Rattle.event_text.specs.declared.way.Way.TheVariants as ways
use Rattle.event_text.specs.Outcome.{end_words, refusal_words, clear_refusal_words}
use Rattle.event_text.specs.Report.{numbered, answer_words, answer_line, hub_line, service_line, last_word, ticket_line, entry_line, book_text, log_line, StreamText, IsReport}
use Rattle.event_text.specs.Told.{MayEnd, MayRefuse, MayNotClear, MayAnswer, MayBeBooked, MayBeReported, Suits, SuitAll}
use Rattle.event_text.specs.Words.{words_of}
use Rattle.event_text.proofs.BookCuts.{value_is, wide_word, wide_then, body_cut, end_read, end_reads, end_clear, named_then, space_then, byte_clear, entry_begins, tickets_cut, entries_cut}
use Rattle.event_text.proofs.LogCuts.{log_begins, logs_cut, number_read, number_reads, some_same, small_clear}
use Rattle.event_text.proofs.TextCuts.{Clear, is_nl, NotWith, behind_front, clear_word, number_clear, lines_cut, sent_cut, taken_cut, nothing, head_same}

-- ---- whether the hub runs

abbrev hub_body : Option End → List ℕ
hub_body None = codes "running"
hub_body (Some end) = codes "ended " ++ end_words end

hub_written : (end : Option End) (s : List ℕ) → hub_line end ++ s ≡ codes "hub " ++ (hub_body end ++ 10 ∷ s)
hub_written None s = refl
hub_written (Some end) s = simp append_assoc

hub_clear : (end : Option End) → IfSome end MayEnd → Clear is_nl (hub_body end)
hub_clear None fits = clear_word is_nl (codes "running") refl
hub_clear (Some end) fits = named_then (codes "ended ") (end_words end) (clear_word is_nl (codes "ended ") refl) (end_clear end fits)

abbrev some_end : Option End → Option (Option End)
some_end None = None
some_end (Some end) = Some (Some end)

abbrev hub_read : List (List ℕ) → Option (Option End)
hub_read [] = None
hub_read (head ∷ words) = cond (bytes_eq head (codes "running")) (Some None) (some_end (end_read words))

hub_reads : (end : Option End) → IfSome end MayEnd → hub_read (words_of (hub_body end)) ≡ Some end
hub_reads None fits = refl
hub_reads (Some end) fits = ap some_end (end_reads end fits)

hub_cut : (end other : Option End) (s t : List ℕ) → IfSome end MayEnd → IfSome other MayEnd → hub_line end ++ s ≡ hub_line other ++ t → (end ≡ other) × (s ≡ t)
hub_cut end other s t p q e =
    let bodies = behind_front (codes "hub ") _ _ (sym (hub_written end s) ∙ (e ∙ hub_written other t)) in
    let cut = body_cut (hub_body end) (hub_body other) s t (hub_clear end p) (hub_clear other q) bodies in
    (some_same (sym (hub_reads end p) ∙ (ap (λ z. hub_read (words_of z)) cut.0 ∙ hub_reads other q)), cut.1)

-- ---- the requests for service

abbrev service_body : Service → List ℕ
service_body x = decimal x.count ++ 32 ∷ last_word x.last

service_written : (x : Service) (s : List ℕ) → service_line x ++ s ≡ codes "service " ++ (service_body x ++ 10 ∷ s)
service_written x s = simp append_assoc

last_clear : (last : Option ℕ) → IfSome last (λ byte. byte < 2 ^ 8) → Clear is_nl (last_word last)
last_clear None fits = clear_word is_nl (codes "-") refl
last_clear (Some byte) fits = byte_clear byte fits

abbrev last_read : List ℕ → Option ℕ
last_read word = cond (bytes_eq word (codes "-")) None (Some (digits_value 10 word))

no_dash : (ds : List ℕ) → AllDigits 10 ds → ds ≡ codes "-" → ⊥
no_dash ds all e =
    let dash : AllDigits 10 (codes "-") = subst (λ xs. AllDigits 10 xs) e all in
    let d = digit_from_value 45 dash.0 in
    omega (arith, d)

last_by : (word : List ℕ) (b : Bool) → bytes_eq word (codes "-") ≡ b → (word ≡ codes "-" → ⊥) → cond b None (Some (digits_value 10 word)) ≡ Some (digits_value 10 word)
last_by word true e never = absurd (never ((bytes_eq-Decides word (codes "-")).0 e))
last_by word false e never = refl

last_reads : (last : Option ℕ) → IfSome last (λ byte. byte < 2 ^ 8) → last_read (last_word last) ≡ last
last_reads None fits = refl
last_reads (Some byte) fits =
    let wide : byte < 2 ^ 64 = omega (arith, fits) in
    last_by (decimal byte) _ refl (no_dash (decimal byte) (decimal_is_IsNumeral byte wide).0.1) ∙ ap (λ z. Some z) (value_is byte wide)

last_one : (last : Option ℕ) → IfSome last (λ byte. byte < 2 ^ 8) → words_of (last_word last) ≡ last_word last ∷ []
last_one None fits = refl
last_one (Some byte) fits = wide_word byte (omega (arith, fits))

abbrev service_read : List (List ℕ) → Option Service
service_read (count ∷ last ∷ []) = Some (record { count = digits_value 10 count; last = last_read last })
service_read words = None

service_reads : (x : Service) → x.count < 2 ^ 64 → IfSome x.last (λ byte. byte < 2 ^ 8) → service_read (words_of (service_body x)) ≡ Some x
service_reads x wide fits =
    ap service_read (wide_then x.count (last_word x.last) wide ∙ ap (λ z. decimal x.count ∷ z) (last_one x.last fits))
    ∙ (ap (λ (n : ℕ). Some (record { count = n; last = last_read (last_word x.last) })) (value_is x.count wide)
    ∙ ap (λ (l : Option ℕ). Some (record { count = x.count; last = l })) (last_reads x.last fits))

service_cut : (x y : Service) (s t : List ℕ) → x.count < 2 ^ 64 → y.count < 2 ^ 64 → IfSome x.last (λ byte. byte < 2 ^ 8) → IfSome y.last (λ byte. byte < 2 ^ 8)
    → service_line x ++ s ≡ service_line y ++ t → (x ≡ y) × (s ≡ t)
service_cut x y s t wx wy fx fy e =
    let bodies = behind_front (codes "service ") _ _ (sym (service_written x s) ∙ (e ∙ service_written y t)) in
    let clear_x = space_then (decimal x.count) (last_word x.last) (number_clear x.count wx) (last_clear x.last fx) in
    let clear_y = space_then (decimal y.count) (last_word y.last) (number_clear y.count wy) (last_clear y.last fy) in
    let cut = body_cut (service_body x) (service_body y) s t clear_x clear_y bodies in
    (some_same (sym (service_reads x wx fx) ∙ (ap (λ z. service_read (words_of z)) cut.0 ∙ service_reads y wy fy)), cut.1)

-- ---- the book

-- lines begin with their letter, and where there are none the text goes on
lines_not : {A : Type 0} → (line : ℕ → A → List ℕ) (d c : ℕ) → ((n : ℕ) (x : A) → (more : List ℕ) × (line n x ≡ d ∷ more)) → (d ≡ c → ⊥)
    → (n : ℕ) (xs : List A) (s : List ℕ) → NotWith c s → NotWith c (numbered line n xs ++ s)
lines_not {A} line d c begins other n [] s ns = ns
lines_not {A} line d c begins other n (x ∷ xs) s ns =
    λ more e. other (head_same (sym (ap (λ z. (z ++ numbered line (n + 1) xs) ++ s) (begins n x).1) ∙ e))

same_book : (x y : BookSeen) → x.tickets ≡ y.tickets → x.entries ≡ y.entries → x.service ≡ y.service → x ≡ y
same_book x y t e s =
    ap (λ (z : List Seen). record { tickets = z; entries = x.entries; service = x.service }) t
    ∙ (ap (λ (z : List BookEntry). record { tickets = y.tickets; entries = z; service = x.service }) e
    ∙ ap (λ (z : Service). record { tickets = y.tickets; entries = y.entries; service = z }) s)

record SameBook (end other : Option End) (x y : BookSeen) (s t : List ℕ) : Type 0 where
  ends : end ≡ other
  books : x ≡ y
  behind : s ≡ t

book_cut : (end other : Option End) (x y : BookSeen) (s t : List ℕ) → MayBeBooked end x → MayBeBooked other y
    → NotWith 116 s → NotWith 116 t → NotWith 98 s → NotWith 98 t → book_text end x ++ s ≡ book_text other y ++ t → SameBook end other x y s t
book_cut end other x y s t p q ns nt ms mt e =
    let tx = numbered ticket_line 1 x.tickets in
    let ty = numbered ticket_line 1 y.tickets in
    let ex = numbered entry_line 1 x.entries in
    let ey = numbered entry_line 1 y.entries in
    let whole : hub_line end ++ (service_line x.service ++ (tx ++ (ex ++ s))) ≡ hub_line other ++ (service_line y.service ++ (ty ++ (ey ++ t))) =
    sym (parted (hub_line end) (service_line x.service) tx ex s) ∙ (e ∙ parted (hub_line other) (service_line y.service) ty ey t) in
    let hub = hub_cut end other _ _ p.ended q.ended whole in
    let service = service_cut x.service y.service _ _ p.count q.count p.last q.last hub.1 in
    let tickets =
    tickets_cut x.tickets y.tickets (ex ++ s) (ey ++ t) p.tickets q.tickets
    (lines_not entry_line 98 116 entry_begins (λ f. omega (arith, f)) 1 x.entries s ns) (lines_not entry_line 98 116 entry_begins (λ f. omega (arith, f)) 1 y.entries t nt) service.1 in
    let entries = entries_cut x.entries y.entries s t p.entries q.entries ms mt tickets.1 in
    record { ends = hub.0; books = same_book x y tickets.0 entries.0 service.0; behind = entries.1 }
  where
    parted : (a b c d r : List ℕ) → (a ++ (b ++ (c ++ d))) ++ r ≡ a ++ (b ++ (c ++ (d ++ r)))
    parted a b c d r = simp append_assoc

-- ---- what the events answered

refusal_clear : (fault : AskFault) → MayRefuse fault → Clear is_nl (refusal_words fault)
refusal_clear (refused.Down end) fits = named_then (codes "Down ") (end_words end) (clear_word is_nl (codes "Down ") refl) (end_clear end fits)
refusal_clear refused.NoSession fits = clear_word is_nl (codes "NoSession") refl
refusal_clear refused.No488 fits = clear_word is_nl (codes "No488") refl
refusal_clear refused.EmptyMessage fits = clear_word is_nl (codes "EmptyMessage") refl
refusal_clear refused.LongMessage fits = clear_word is_nl (codes "LongMessage") refl
refusal_clear refused.BadLimit fits = clear_word is_nl (codes "BadLimit") refl
refusal_clear refused.Full fits = clear_word is_nl (codes "Full") refl
refusal_clear refused.Exhausted fits = clear_word is_nl (codes "Exhausted") refl
refusal_clear refused.Memory fits = clear_word is_nl (codes "Memory") refl

not_cleared_clear : (fault : ClearFault) → MayNotClear fault → Clear is_nl (clear_refusal_words fault)
not_cleared_clear (not_cleared.Down end) fits = named_then (codes "Down ") (end_words end) (clear_word is_nl (codes "Down ") refl) (end_clear end fits)
not_cleared_clear not_cleared.NoSession fits = clear_word is_nl (codes "NoSession") refl
not_cleared_clear not_cleared.Memory fits = clear_word is_nl (codes "Memory") refl

answer_clear : (answer : Option EventAnswer) → MayAnswer answer → Clear is_nl (answer_words answer)
answer_clear None fits = clear_word is_nl (codes "not-enabled") refl
answer_clear (Some (Ticket ticket)) fits = named_then (codes "ticket ") (decimal ticket) (clear_word is_nl (codes "ticket ") refl) (small_clear ticket fits)
answer_clear (Some (Refused fault)) fits = named_then (codes "refused ") (refusal_words fault) (clear_word is_nl (codes "refused ") refl) (refusal_clear fault fits)
answer_clear (Some (CancelSaid cancel.Begun)) fits = clear_word is_nl (codes "begun") refl
answer_clear (Some (CancelSaid cancel.Settled)) fits = clear_word is_nl (codes "settled") refl
answer_clear (Some (CancelSaid cancel.Unknown)) fits = clear_word is_nl (codes "unknown") refl
answer_clear (Some (DropSaid dropped.Begun)) fits = clear_word is_nl (codes "begun") refl
answer_clear (Some (DropSaid dropped.NothingLive)) fits = clear_word is_nl (codes "nothing") refl
answer_clear (Some (NotCleared fault)) fits = named_then (codes "refused ") (clear_refusal_words fault) (clear_word is_nl (codes "refused ") refl) (not_cleared_clear fault fits)
answer_clear (Some Done) fits = clear_word is_nl (codes "ok") refl

-- a line of an event by its words
abbrev word_line : ℕ → List ℕ → List ℕ
word_line n words = codes "event " ++ (decimal n ++ (codes " " ++ (words ++ codes "\n")))

word_written : (n : ℕ) (words s : List ℕ) → word_line n words ++ s ≡ codes "event " ++ (decimal n ++ (32 ∷ (words ++ 10 ∷ s)))
word_written n words s = simp append_assoc

word_cut : (n : ℕ) (x y : List ℕ) (s t : List ℕ) → Clear is_nl x → Clear is_nl y → word_line n x ++ s ≡ word_line n y ++ t → (x ≡ y) × (s ≡ t)
word_cut n x y s t p q e =
    let bodies = behind_front (32 ∷ []) _ _ (behind_front (decimal n) _ _ (behind_front (codes "event ") _ _ (sym (word_written n x s) ∙ (e ∙ word_written n y t)))) in
    body_cut x y s t p q bodies

as_words : (n : ℕ) (answers : List (Option EventAnswer)) → numbered answer_line n answers ≡ numbered word_line n (map answer_words answers)
as_words n [] = refl
as_words n (answer ∷ answers) = ap (λ z. answer_line n answer ++ z) (as_words (n + 1) answers)

all_clear : (answers : List (Option EventAnswer)) → AllByRecursion MayAnswer answers → AllByRecursion (Clear is_nl) (map answer_words answers)
all_clear [] fits = tt
all_clear (answer ∷ answers) fits = (answer_clear answer fits.0, all_clear answers fits.1)

answers_cut : (xs ys : List (Option EventAnswer)) (s t : List ℕ) → AllByRecursion MayAnswer xs → AllByRecursion MayAnswer ys → NotWith 101 s → NotWith 101 t
    → numbered answer_line 1 xs ++ s ≡ numbered answer_line 1 ys ++ t → (map answer_words xs ≡ map answer_words ys) × (s ≡ t)
answers_cut xs ys s t p q ns nt e =
    lines_cut word_line (Clear is_nl) 101 (λ n x. (_, refl)) word_cut 1 (map answer_words xs) (map answer_words ys) s t (all_clear xs p) (all_clear ys q) ns nt
    (sym (ap (λ z. z ++ s) (as_words 1 xs)) ∙ (e ∙ ap (λ z. z ++ t) (as_words 1 ys)))

-- ---- a report

hub_begins : (end : Option End) → (more : List ℕ) × (hub_line end ≡ 104 ∷ more)
hub_begins None = (_, refl)
hub_begins (Some end) = (_, refl)

book_not : (end : Option End) (book : BookSeen) (s : List ℕ) → NotWith 101 (book_text end book ++ s)
book_not end book s more e =
    let tail : List ℕ = service_line book.service ++ (numbered ticket_line 1 book.tickets ++ numbered entry_line 1 book.entries) in
    let heads : 104 ≡ 101 = head_same (sym (ap (λ z. (z ++ tail) ++ s) (hub_begins end).1) ∙ e) in
    omega (arith, heads)

sent_not : (c : ℕ) (bytes text s : List ℕ) → StreamText ways.Up bytes text → (117 ≡ c → ⊥) → NotWith c (text ++ s)
sent_not c bytes text s is other more e = other (head_same (sym (ap (λ z. z ++ s) is.written) ∙ e))

taken_not : (bytes text : List ℕ) → StreamText ways.Down bytes text → NotWith 117 text
taken_not bytes text is more e =
    let heads : 100 ≡ 117 = head_same (sym is.written ∙ e) in
    omega (arith, heads)

pub record Same (answers others : List (Option EventAnswer)) (end ending : Option End) (book second : BookSeen) (log entries : List LogEntry) (up sent down taken : List ℕ) : Type 0 where
  pub words : map answer_words answers ≡ map answer_words others
  pub ends : end ≡ ending
  pub books : book ≡ second
  pub logs : log ≡ entries
  pub ups : up ≡ sent
  pub downs : down ≡ taken

pub report_same : (answers others : List (Option EventAnswer)) (end ending : Option End) (book second : BookSeen) (log entries : List LogEntry) (up sent down taken text : List ℕ)
    → MayBeReported answers end book log up down → MayBeReported others ending second entries sent taken
    → IsReport answers end book log up down text → IsReport others ending second entries sent taken text
    → Same answers others end ending book second log entries up sent down taken
report_same answers others end ending book second log entries up sent down taken text p q is be =
    let lx = numbered log_line 1 log in
    let ly = numbered log_line 1 entries in
    let whole : numbered answer_line 1 answers ++ (book_text end book ++ (lx ++ (is.up_text ++ is.down_text)))
    ≡ numbered answer_line 1 others ++ (book_text ending second ++ (ly ++ (be.up_text ++ be.down_text))) = sym is.written ∙ be.written in
    let a = answers_cut answers others _ _ p.answered q.answered (book_not end book _) (book_not ending second _) whole in
    let b =
    book_cut end ending book second (lx ++ (is.up_text ++ is.down_text)) (ly ++ (be.up_text ++ be.down_text)) p.booked q.booked
    (lines_not log_line 108 116 log_begins (λ f. omega (arith, f)) 1 log _ (sent_not 116 up is.up_text is.down_text is.sent (λ f. omega (arith, f))))
    (lines_not log_line 108 116 log_begins (λ f. omega (arith, f)) 1 entries _ (sent_not 116 sent be.up_text be.down_text be.sent (λ f. omega (arith, f))))
    (lines_not log_line 108 98 log_begins (λ f. omega (arith, f)) 1 log _ (sent_not 98 up is.up_text is.down_text is.sent (λ f. omega (arith, f))))
    (lines_not log_line 108 98 log_begins (λ f. omega (arith, f)) 1 entries _ (sent_not 98 sent be.up_text be.down_text be.sent (λ f. omega (arith, f))))
    a.1 in
    let l =
    logs_cut log entries (is.up_text ++ is.down_text) (be.up_text ++ be.down_text) p.logged q.logged
    (sent_not 108 up is.up_text is.down_text is.sent (λ f. omega (arith, f))) (sent_not 108 sent be.up_text be.down_text be.sent (λ f. omega (arith, f))) b.behind in
    let u = sent_cut up sent is.up_text be.up_text is.down_text be.down_text is.sent be.sent p.sent q.sent (taken_not down is.down_text is.taken) (taken_not taken be.down_text be.taken) l.1 in
    let d = taken_cut down taken is.down_text be.down_text [] [] is.taken be.taken p.taken q.taken (nothing 100) (nothing 100) (ap (λ z. z ++ []) u.1) in
    record { words = a.0; ends = b.ends; books = b.books; logs = l.0; ups = u.0; downs = d.0 }

-- ---- and with its events its answers

abbrev down_read : Option End → Option AskFault
down_read None = None
down_read (Some end) = Some (refused.Down end)

abbrev refusal_read : List (List ℕ) → Option AskFault
refusal_read [] = None
refusal_read (head ∷ words) =
    cond (bytes_eq head (codes "Down")) (down_read (end_read words))
    (cond (bytes_eq head (codes "NoSession")) (Some refused.NoSession)
    (cond (bytes_eq head (codes "No488")) (Some refused.No488)
    (cond (bytes_eq head (codes "EmptyMessage")) (Some refused.EmptyMessage)
    (cond (bytes_eq head (codes "LongMessage")) (Some refused.LongMessage)
    (cond (bytes_eq head (codes "BadLimit")) (Some refused.BadLimit)
    (cond (bytes_eq head (codes "Full")) (Some refused.Full)
    (cond (bytes_eq head (codes "Exhausted")) (Some refused.Exhausted)
    (Some refused.Memory))))))))

refusal_reads : (fault : AskFault) → MayRefuse fault → refusal_read (words_of (refusal_words fault)) ≡ Some fault
refusal_reads (refused.Down end) fits = ap down_read (end_reads end fits)
refusal_reads refused.NoSession fits = refl
refusal_reads refused.No488 fits = refl
refusal_reads refused.EmptyMessage fits = refl
refusal_reads refused.LongMessage fits = refl
refusal_reads refused.BadLimit fits = refl
refusal_reads refused.Full fits = refl
refusal_reads refused.Exhausted fits = refl
refusal_reads refused.Memory fits = refl

abbrev refused_read : Option AskFault → Option (Option EventAnswer)
refused_read None = None
refused_read (Some fault) = Some (Some (Refused fault))

-- who asks gets a ticket or a refusal
abbrev asked_read : List (List ℕ) → Option (Option EventAnswer)
asked_read [] = None
asked_read (head ∷ words) =
    cond (bytes_eq head (codes "not-enabled")) (Some None)
    (cond (bytes_eq head (codes "ticket")) (number_read (λ n. Some (Ticket n)) words) (refused_read (refusal_read words)))

abbrev IsAsked : Option EventAnswer → Type 0
IsAsked None = Unit {0}
IsAsked (Some (Ticket ticket)) = Unit {0}
IsAsked (Some (Refused fault)) = Unit {0}
IsAsked (Some answer) = ⊥

asked_reads : (x : Option EventAnswer) → IsAsked x → MayAnswer x → asked_read (words_of (answer_words x)) ≡ Some x
asked_reads None suits fits = refl
asked_reads (Some (Ticket n)) suits fits = number_reads (λ k. Some (Ticket k)) n fits
asked_reads (Some (Refused fault)) suits fits = ap refused_read (refusal_reads fault fits)
asked_reads (Some (CancelSaid said)) suits fits = absurd suits
asked_reads (Some (DropSaid said)) suits fits = absurd suits
asked_reads (Some (NotCleared fault)) suits fits = absurd suits
asked_reads (Some Done) suits fits = absurd suits

asked_same : (x y : Option EventAnswer) → IsAsked x → IsAsked y → MayAnswer x → MayAnswer y → answer_words x ≡ answer_words y → x ≡ y
asked_same x y sx sy fx fy e = some_same (sym (asked_reads x sx fx) ∙ (ap (λ z. asked_read (words_of z)) e ∙ asked_reads y sy fy))

abbrev IsDone : Option EventAnswer → Type 0
IsDone None = Unit {0}
IsDone (Some Done) = Unit {0}
IsDone (Some answer) = ⊥

abbrev done_read : List (List ℕ) → Option EventAnswer
done_read [] = None
done_read (head ∷ words) = cond (bytes_eq head (codes "ok")) (Some Done) None

done_reads : (x : Option EventAnswer) → IsDone x → done_read (words_of (answer_words x)) ≡ x
done_reads None suits = refl
done_reads (Some Done) suits = refl
done_reads (Some (Ticket ticket)) suits = absurd suits
done_reads (Some (Refused fault)) suits = absurd suits
done_reads (Some (CancelSaid said)) suits = absurd suits
done_reads (Some (DropSaid said)) suits = absurd suits
done_reads (Some (NotCleared fault)) suits = absurd suits

done_same : (x y : Option EventAnswer) → IsDone x → IsDone y → answer_words x ≡ answer_words y → x ≡ y
done_same x y sx sy e = sym (done_reads x sx) ∙ (ap (λ z. done_read (words_of z)) e ∙ done_reads y sy)

ask_suits : (session limit : ℕ) (message : List ℕ) (x : Option EventAnswer) → Suits (event.Ask session limit message) x → IsAsked x
ask_suits session limit message None suits = tt
ask_suits session limit message (Some (Ticket ticket)) suits = tt
ask_suits session limit message (Some (Refused fault)) suits = tt
ask_suits session limit message (Some (CancelSaid said)) suits = absurd suits
ask_suits session limit message (Some (DropSaid said)) suits = absurd suits
ask_suits session limit message (Some (NotCleared fault)) suits = absurd suits
ask_suits session limit message (Some Done) suits = absurd suits

tell_suits : (session : ℕ) (message : List ℕ) (x : Option EventAnswer) → Suits (event.Tell session message) x → IsAsked x
tell_suits session message None suits = tt
tell_suits session message (Some (Ticket ticket)) suits = tt
tell_suits session message (Some (Refused fault)) suits = tt
tell_suits session message (Some (CancelSaid said)) suits = absurd suits
tell_suits session message (Some (DropSaid said)) suits = absurd suits
tell_suits session message (Some (NotCleared fault)) suits = absurd suits
tell_suits session message (Some Done) suits = absurd suits

answer_same : (what : Event) (x y : Option EventAnswer) → Suits what x → Suits what y → MayAnswer x → MayAnswer y → answer_words x ≡ answer_words y → x ≡ y
answer_same (event.Ask session limit message) x y sx sy fx fy e = asked_same x y (ask_suits session limit message x sx) (ask_suits session limit message y sy) fx fy e
answer_same (event.Tell session message) x y sx sy fx fy e = asked_same x y (tell_suits session message x sx) (tell_suits session message y sy) fx fy e
answer_same event.GiveUp x y sx sy fx fy e = done_same x y (of_done x sx) (of_done y sy) e
  where
    of_done : (x : Option EventAnswer) → Suits event.GiveUp x → IsDone x
    of_done None suits = tt
    of_done (Some Done) suits = tt
    of_done (Some (Ticket ticket)) suits = absurd suits
    of_done (Some (Refused fault)) suits = absurd suits
    of_done (Some (CancelSaid said)) suits = absurd suits
    of_done (Some (DropSaid said)) suits = absurd suits
    of_done (Some (NotCleared fault)) suits = absurd suits
answer_same (event.Up n) x y sx sy fx fy e = done_same x y (of_done x sx) (of_done y sy) e
  where
    of_done : (x : Option EventAnswer) → Suits (event.Up n) x → IsDone x
    of_done None suits = tt
    of_done (Some Done) suits = tt
    of_done (Some (Ticket ticket)) suits = absurd suits
    of_done (Some (Refused fault)) suits = absurd suits
    of_done (Some (CancelSaid said)) suits = absurd suits
    of_done (Some (DropSaid said)) suits = absurd suits
    of_done (Some (NotCleared fault)) suits = absurd suits
answer_same (event.Down n) x y sx sy fx fy e = done_same x y (of_done x sx) (of_done y sy) e
  where
    of_done : (x : Option EventAnswer) → Suits (event.Down n) x → IsDone x
    of_done None suits = tt
    of_done (Some Done) suits = tt
    of_done (Some (Ticket ticket)) suits = absurd suits
    of_done (Some (Refused fault)) suits = absurd suits
    of_done (Some (CancelSaid said)) suits = absurd suits
    of_done (Some (DropSaid said)) suits = absurd suits
    of_done (Some (NotCleared fault)) suits = absurd suits
answer_same (event.Dev what) x y sx sy fx fy e = done_same x y (of_done x sx) (of_done y sy) e
  where
    of_done : (x : Option EventAnswer) → Suits (event.Dev what) x → IsDone x
    of_done None suits = tt
    of_done (Some Done) suits = tt
    of_done (Some (Ticket ticket)) suits = absurd suits
    of_done (Some (Refused fault)) suits = absurd suits
    of_done (Some (CancelSaid said)) suits = absurd suits
    of_done (Some (DropSaid said)) suits = absurd suits
    of_done (Some (NotCleared fault)) suits = absurd suits
answer_same event.FailSend x y sx sy fx fy e = done_same x y (of_done x sx) (of_done y sy) e
  where
    of_done : (x : Option EventAnswer) → Suits event.FailSend x → IsDone x
    of_done None suits = tt
    of_done (Some Done) suits = tt
    of_done (Some (Ticket ticket)) suits = absurd suits
    of_done (Some (Refused fault)) suits = absurd suits
    of_done (Some (CancelSaid said)) suits = absurd suits
    of_done (Some (DropSaid said)) suits = absurd suits
    of_done (Some (NotCleared fault)) suits = absurd suits
answer_same event.FailPoll x y sx sy fx fy e = done_same x y (of_done x sx) (of_done y sy) e
  where
    of_done : (x : Option EventAnswer) → Suits event.FailPoll x → IsDone x
    of_done None suits = tt
    of_done (Some Done) suits = tt
    of_done (Some (Ticket ticket)) suits = absurd suits
    of_done (Some (Refused fault)) suits = absurd suits
    of_done (Some (CancelSaid said)) suits = absurd suits
    of_done (Some (DropSaid said)) suits = absurd suits
    of_done (Some (NotCleared fault)) suits = absurd suits
answer_same event.Rest x y sx sy fx fy e = done_same x y (of_done x sx) (of_done y sy) e
  where
    of_done : (x : Option EventAnswer) → Suits event.Rest x → IsDone x
    of_done None suits = tt
    of_done (Some Done) suits = tt
    of_done (Some (Ticket ticket)) suits = absurd suits
    of_done (Some (Refused fault)) suits = absurd suits
    of_done (Some (CancelSaid said)) suits = absurd suits
    of_done (Some (DropSaid said)) suits = absurd suits
    of_done (Some (NotCleared fault)) suits = absurd suits

words_head : {x y : List ℕ} {xs ys : List (List ℕ)} → x ∷ xs ≡ y ∷ ys → x ≡ y
words_head e = cc

words_tail : {x y : List ℕ} {xs ys : List (List ℕ)} → x ∷ xs ≡ y ∷ ys → xs ≡ ys
words_tail e = cc

pub answers_same : (events : List Event) (xs ys : List (Option EventAnswer)) → SuitAll events xs → SuitAll events ys → AllByRecursion MayAnswer xs → AllByRecursion MayAnswer ys
    → map answer_words xs ≡ map answer_words ys → xs ≡ ys
answers_same [] [] [] sx sy fx fy e = refl
answers_same [] [] (y ∷ ys) sx sy fx fy e = absurd sy
answers_same [] (x ∷ xs) ys sx sy fx fy e = absurd sx
answers_same (what ∷ events) [] ys sx sy fx fy e = absurd sx
answers_same (what ∷ events) (x ∷ xs) [] sx sy fx fy e = absurd sy
answers_same (what ∷ events) (x ∷ xs) (y ∷ ys) sx sy fx fy e =
    let here : x ≡ y = answer_same what x y sx.0 sy.0 fx.0 fy.0 (words_head e) in
    let others : xs ≡ ys = answers_same events xs ys sx.1 sy.1 fx.1 fy.1 (words_tail e) in
    cc
