-- Laws of a sheet that is read: what is printed of one that is taken, of one that is not, and of a question with too few bytes. Assumes nothing.
use Rattle.std.proofs.Common.{◌≡◌, ℕ, ◌-◌, List, length, take, drop}
use Rattle.std.specs.Prelude.{cond, Ok, Err}
use Rattle.refusal.specs.declared.Refusal.{Refusal}
use Rattle.refusal.specs.declared.Refusal.TheVariants as R
use Rattle.base.proofs.Test.{cases}
use Rattle.queue.proofs.RingLaws.{rest_all}
use Rattle.sheet.specs.declared.head.Order.{Order}
use Rattle.sheet.specs.Layout.{order_in, taken_sheet}
use Rattle.sheet.specs.ChartComputed.{order_answer}
use Rattle.sheet.specs.Text.{refused_text}
use Rattle.sheet.specs.Printed.{order_text, text_of}
use Rattle.sheet.specs.Why.{order_why, sheet_why}

-- what is printed of a sheet, by what is printed of one that is taken
abbrev printed : (Order → List ℕ → List ℕ) → List ℕ → List ℕ
printed f s = cond (taken_sheet s) (f (order_in s) (drop (order_in s).tape s)) (refused_text R.Sheet)

module _ (f : Order → List ℕ → List ℕ) (s : List ℕ) where
  printed_taken : (o : Order) → Ok o ≡ order_answer s → f o (take (length s - o.tape) (drop o.tape s)) ≡ printed f s
  printed_taken o e = cases (taken_sheet s)
      (λ h. let k : o ≡ order_in s = cc in rw (h, rest_all s o.tape, k))
      (λ h. absurd cc)

  printed_refused : (why : Refusal) → Err why ≡ order_answer s → printed f s ≡ refused_text why
  printed_refused why e = cases (taken_sheet s)
      (λ h. absurd cc)
      (λ h. let k : why ≡ R.Sheet = cc in rw (h, k))

pub text_taken : (s : List ℕ) (o : Order) → Ok o ≡ order_answer s → order_text o (take (length s - o.tape) (drop o.tape s)) ≡ text_of s
unfolding text_of
text_taken = printed_taken order_text

pub text_refused : (s : List ℕ) (why : Refusal) → Err why ≡ order_answer s → text_of s ≡ refused_text why
unfolding text_of
text_refused = printed_refused order_text

pub why_taken : (s : List ℕ) (column row : ℕ) (o : Order) → Ok o ≡ order_answer s → order_why o (take (length s - o.tape) (drop o.tape s)) column row ≡ sheet_why s column row
unfolding sheet_why
why_taken s column row = printed_taken (λ o tape. order_why o tape column row) s

pub why_refused : (s : List ℕ) (column row : ℕ) (why : Refusal) → Err why ≡ order_answer s → sheet_why s column row ≡ refused_text why
unfolding sheet_why
why_refused s column row = printed_refused (λ o tape. order_why o tape column row) s
