-- The report of a run: document 01, "Running"; layout: docs/FORMATS.md, "Report of a run". Definitions only.
use Rattle.std.specs.Prelude.{ℕ, suc, ◌-◌, ◌^◌, List, [], ◌∷◌, ◌++◌, ℤ, pos, negsuc, get_or}
use Rattle.lent.specs.Bytes.{be_bytes}
use Rattle.tables.specs.Tables.{Program}
use Rattle.vm.specs.RuntimeErr.{stop_number, details}
use Rattle.vm.specs.Machine.{State, Answer, Done, Stopped, Spent, line}
use Rattle.lent.specs.Lists.{zeros}

-- a signed number in 8 bytes, two's complement
abbrev pub signed_bytes : ℤ → List ℕ
signed_bytes (pos n) = be_bytes 8 n
signed_bytes (negsuc n) = be_bytes 8 (2 ^ 64 - suc n)

abbrev pub report_size : ℕ
report_size = 48

-- answer, number, 6 zeros, line, three details, steps taken in this run
abbrev pub report_bytes : ℕ → ℕ → ℤ → List ℕ → ℕ → List ℕ
report_bytes a n l d k = a ∷ (n ∷ (zeros 6 ++ (signed_bytes l ++ (be_bytes 8 (get_or d 0 0) ++ (be_bytes 8 (get_or d 1 0) ++ (be_bytes 8 (get_or d 2 0) ++ be_bytes 8 k))))))

-- done 0, stopped 1, spent 2
abbrev pub report : Program → Answer → State → ℕ → List ℕ
report p Done s k = report_bytes 0 0 (pos 0) [] k
report p (Stopped e) s k = report_bytes 1 (stop_number e) (line p s.machine) (details e) k
report p Spent s k = report_bytes 2 0 (pos 0) [] k
