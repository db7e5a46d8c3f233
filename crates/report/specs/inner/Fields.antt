-- The report's fields for whatever a run answers; layout: docs/FORMATS.md, "Report of a run". Definitions only.
use Rattle.std.specs.Prelude.{ℕ, suc, ◌+◌, ◌-◌, cond, List, ◌++◌, ℤ, pos, negsuc, nat_le}
use Rattle.lent.specs.Bytes.{be_bytes}
use Rattle.execute.specs.inner.View.{err_model, three_details}
use Rattle.execute.specs.declared.Answer.{Answer}
use Rattle.execute.specs.declared.Answer.TheVariants.{Done, Stopped, Spent}
use Rattle.vm.specs.RuntimeErr.{stop_number}
use Rattle.vm.specs.Report.{signed_bytes}
use Rattle.lent.specs.Lists.{zeros}

-- the line of a position on numbers: `line` of crate vm
abbrev pub line_at : ℕ → ℕ → ℤ
line_at start at = cond (nat_le start (suc at)) (pos (suc at - start)) (negsuc (start - (at + 2)))

-- answer, number, 6 zeros, the line's bytes, three details, steps
unfoldable pub report_fields : ℕ → ℕ → List ℕ → ℕ × ℕ × ℕ → ℕ → List ℕ
report_fields a n l d k =
    be_bytes 1 a ++ (be_bytes 1 n ++ (zeros 6 ++ (l ++ (be_bytes 8 d.0 ++ (be_bytes 8 d.1 ++ (be_bytes 8 d.2 ++ be_bytes 8 k))))))

-- the details where nothing stopped
abbrev pub no_details : ℕ × ℕ × ℕ
no_details = (0, 0, 0)

-- of a program that starts at `start`, at a position, after k steps: done 0, stopped 1, spent 2
abbrev pub report_of : ℕ → Answer → ℕ → ℕ → List ℕ
report_of start Done at k = report_fields 0 0 (signed_bytes (pos 0)) no_details k
report_of start (Stopped e) at k = report_fields 1 (stop_number (err_model e)) (signed_bytes (line_at start at)) (three_details (err_model e)) k
report_of start Spent at k = report_fields 2 0 (signed_bytes (pos 0)) no_details k
