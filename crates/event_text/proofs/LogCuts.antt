-- a line of a log tells its entry
use Rattle.std.proofs.Common.{◌≡◌, ℕ, ◌<◌, ◌^◌, cond, Option, Some, None, List, [], ◌∷◌, ◌++◌, codes, refl, sym, ap, ◌∙◌, arith, append_assoc}
use Rattle.std.proofs.lemmas.Fmt.{decimal_is_IsNumeral}
use Rattle.std.specs.Fmt.{decimal}
use Rattle.std.specs.List.{AllByRecursion}
use Rattle.std.specs.Str.{bytes_eq}
use Rattle.std.specs.Str.Parse.{digits_value}
use Rattle.instr_plain.specs.declared.log.LogEntry.{LogEntry}
use Rattle.instr_plain.specs.declared.log.LogEntry.TheVariants as logged
use Rattle.instr_plain.specs.declared.remote.RemoteAct.{RemoteAct}
use Rattle.instr_plain.specs.declared.remote.RemoteAct.TheVariants.{On, Off, GoLocal, Lockout}
use Rattle.event_text.specs.Report.{numbered, log_line, act_word}
use Rattle.event_text.specs.Told.{MayBeLogged}
use Rattle.event_text.specs.Words.{words_of, bytes_of, hex_word}
use Rattle.event_text.proofs.Hexes.{bytes_is}
use Rattle.event_text.proofs.Spelled.{number_word, number_then, hex_one}
use Rattle.event_text.proofs.TextCuts.{Clear, is_nl, NotWith, behind_front, cut_at_stop, clear_append, clear_word, number_clear, encoded_clear, by_index, lines_cut, tail_same}

-- what stands behind the number of the line, without the NL
abbrev log_body : LogEntry → List ℕ
log_body (logged.Exec seq message) = codes " exec " ++ (decimal seq ++ 32 ∷ hex_word message)
log_body (logged.Took n) = codes " took " ++ decimal n
log_body logged.Interrupt = codes " interrupt"
log_body logged.Bare = codes " bare"
log_body (logged.Trigger seq) = codes " trigger " ++ decimal seq
log_body (logged.Poll seq) = codes " poll " ++ decimal seq
log_body logged.Clear = codes " clear"
log_body (logged.Remote act) = codes " remote " ++ act_word act

log_written : (n : ℕ) (x : LogEntry) (s : List ℕ) → log_line n x ++ s ≡ codes "log " ++ (decimal n ++ (log_body x ++ 10 ∷ s))
log_written n (logged.Exec seq message) s = simp append_assoc
log_written n (logged.Took k) s = simp append_assoc
log_written n logged.Interrupt s = simp append_assoc
log_written n logged.Bare s = simp append_assoc
log_written n (logged.Trigger seq) s = simp append_assoc
log_written n (logged.Poll seq) s = simp append_assoc
log_written n logged.Clear s = simp append_assoc
log_written n (logged.Remote act) s = simp append_assoc

-- ---- it has no NL

pub hex_clear : (bytes : List ℕ) → Clear is_nl (hex_word bytes)
hex_clear [] = (refl, tt)
hex_clear (b ∷ bytes) = encoded_clear (b ∷ bytes)

act_clear : (act : RemoteAct) → Clear is_nl (act_word act)
act_clear On = clear_word is_nl (codes "on") refl
act_clear Off = clear_word is_nl (codes "off") refl
act_clear GoLocal = clear_word is_nl (codes "local") refl
act_clear Lockout = clear_word is_nl (codes "lockout") refl

pub small_clear : (n : ℕ) → n < 2 ^ 32 → Clear is_nl (decimal n)
small_clear n small = number_clear n (omega (arith, small))

log_clear : (x : LogEntry) → MayBeLogged x → Clear is_nl (log_body x)
log_clear (logged.Exec seq message) fits =
    clear_append is_nl (codes " exec ") (decimal seq ++ 32 ∷ hex_word message) (clear_word is_nl (codes " exec ") refl)
    (clear_append is_nl (decimal seq) (32 ∷ hex_word message) (small_clear seq fits.0) (refl, hex_clear message))
log_clear (logged.Took n) fits = clear_append is_nl (codes " took ") (decimal n) (clear_word is_nl (codes " took ") refl) (small_clear n fits)
log_clear logged.Interrupt fits = clear_word is_nl (codes " interrupt") refl
log_clear logged.Bare fits = clear_word is_nl (codes " bare") refl
log_clear (logged.Trigger seq) fits = clear_append is_nl (codes " trigger ") (decimal seq) (clear_word is_nl (codes " trigger ") refl) (small_clear seq fits)
log_clear (logged.Poll seq) fits = clear_append is_nl (codes " poll ") (decimal seq) (clear_word is_nl (codes " poll ") refl) (small_clear seq fits)
log_clear logged.Clear fits = clear_word is_nl (codes " clear") refl
log_clear (logged.Remote act) fits = clear_append is_nl (codes " remote ") (act_word act) (clear_word is_nl (codes " remote ") refl) (act_clear act)

-- ---- and its words tell the entry

pub value_is : (n : ℕ) → n < 2 ^ 32 → digits_value 10 (decimal n) ≡ n
value_is n small = (decimal_is_IsNumeral n (omega (arith, small))).1

abbrev exec_read : ℕ → Option (List ℕ) → Option LogEntry
exec_read seq None = None
exec_read seq (Some message) = Some (logged.Exec seq message)

abbrev exec_words : List (List ℕ) → Option LogEntry
exec_words (number ∷ message ∷ []) = exec_read (digits_value 10 number) (bytes_of message)
exec_words words = None

abbrev pub number_read : {A : Type 0} → (ℕ → A) → List (List ℕ) → Option A
number_read {A} make (number ∷ []) = Some (make (digits_value 10 number))
number_read {A} make words = None

abbrev act_read : List (List ℕ) → Option LogEntry
act_read (word ∷ []) =
    cond (bytes_eq word (codes "on")) (Some (logged.Remote On)) (cond (bytes_eq word (codes "off")) (Some (logged.Remote Off))
    (cond (bytes_eq word (codes "local")) (Some (logged.Remote GoLocal)) (Some (logged.Remote Lockout))))
act_read words = None

abbrev log_read : List (List ℕ) → Option LogEntry
log_read (before ∷ head ∷ words) =
    cond (bytes_eq head (codes "exec")) (exec_words words)
    (cond (bytes_eq head (codes "took")) (number_read (λ n. logged.Took n) words)
    (cond (bytes_eq head (codes "interrupt")) (Some logged.Interrupt)
    (cond (bytes_eq head (codes "bare")) (Some logged.Bare)
    (cond (bytes_eq head (codes "trigger")) (number_read (λ n. logged.Trigger n) words)
    (cond (bytes_eq head (codes "poll")) (number_read (λ n. logged.Poll n) words)
    (cond (bytes_eq head (codes "clear")) (Some logged.Clear) (act_read words)))))))
log_read words = None

pub number_reads : {A : Type 0} → (make : ℕ → A) (n : ℕ) → n < 2 ^ 32 → number_read make (words_of (decimal n)) ≡ Some (make n)
number_reads {A} make n small = ap (number_read make) (number_word n small) ∙ ap (λ k. Some (make k)) (value_is n small)

log_reads : (x : LogEntry) → MayBeLogged x → log_read (words_of (log_body x)) ≡ Some x
log_reads (logged.Exec seq message) fits =
    ap exec_words (number_then seq (hex_word message) fits.0 ∙ ap (λ z. decimal seq ∷ z) (hex_one message))
    ∙ (ap (λ n. exec_read n (bytes_of (hex_word message))) (value_is seq fits.0) ∙ ap (exec_read seq) (bytes_is message (by_index message fits.1)))
log_reads (logged.Took n) fits = number_reads (λ k. logged.Took k) n fits
log_reads logged.Interrupt fits = refl
log_reads logged.Bare fits = refl
log_reads (logged.Trigger seq) fits = number_reads (λ k. logged.Trigger k) seq fits
log_reads (logged.Poll seq) fits = number_reads (λ k. logged.Poll k) seq fits
log_reads logged.Clear fits = refl
log_reads (logged.Remote On) fits = refl
log_reads (logged.Remote Off) fits = refl
log_reads (logged.Remote GoLocal) fits = refl
log_reads (logged.Remote Lockout) fits = refl

pub some_same : {A : Type 0} → {x y : A} → Some x ≡ Some y → x ≡ y
some_same e = cc

-- ---- a line, and what stands behind it

log_cut : (n : ℕ) (x y : LogEntry) (s t : List ℕ) → MayBeLogged x → MayBeLogged y → log_line n x ++ s ≡ log_line n y ++ t → (x ≡ y) × (s ≡ t)
log_cut n x y s t p q e =
    let bodies : log_body x ++ 10 ∷ s ≡ log_body y ++ 10 ∷ t =
    behind_front (decimal n) _ _ (behind_front (codes "log ") _ _ (sym (log_written n x s) ∙ (e ∙ log_written n y t))) in
    let cut = cut_at_stop is_nl (log_body x) (log_body y) s t 10 10 (log_clear x p) (log_clear y q) refl refl bodies in
    (some_same (sym (log_reads x p) ∙ (ap (λ z. log_read (words_of z)) cut.0 ∙ log_reads y q)), tail_same cut.1)

pub log_begins : (n : ℕ) (x : LogEntry) → (more : List ℕ) × (log_line n x ≡ 108 ∷ more)
log_begins n (logged.Exec seq message) = (_, refl)
log_begins n (logged.Took k) = (_, refl)
log_begins n logged.Interrupt = (_, refl)
log_begins n logged.Bare = (_, refl)
log_begins n (logged.Trigger seq) = (_, refl)
log_begins n (logged.Poll seq) = (_, refl)
log_begins n logged.Clear = (_, refl)
log_begins n (logged.Remote act) = (_, refl)

-- the lines of a log, and what stands behind them
pub logs_cut : (log other : List LogEntry) (s t : List ℕ) → AllByRecursion MayBeLogged log → AllByRecursion MayBeLogged other → NotWith 108 s → NotWith 108 t
    → numbered log_line 1 log ++ s ≡ numbered log_line 1 other ++ t → (log ≡ other) × (s ≡ t)
logs_cut log other s t p q ns nt e = lines_cut log_line MayBeLogged 108 log_begins log_cut 1 log other s t p q ns nt e
