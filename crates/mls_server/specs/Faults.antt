-- The numbers and texts of the faults of opening. This project's own.
use Rattle.std.specs.Prelude.{ℕ, List, codes}
use Rattle.mls_session.specs.Refusals.{Wording}
use Rattle.mls_server.specs.declared.fault.OpenFault.{OpenFault}
use Rattle.mls_server.specs.declared.fault.OpenFault.TheVariants.{OpenAlready, SessionsFull, PoolFull, Memory}

-- what a reply says of each
abbrev pub open_fault_wording : OpenFault → Wording
open_fault_wording OpenAlready = record { number = 1; text = codes "open already" }
open_fault_wording SessionsFull = record { number = 2; text = codes "sessions full" }
open_fault_wording PoolFull = record { number = 3; text = codes "pool full" }
open_fault_wording Memory = record { number = 4; text = codes "memory" }

abbrev pub open_fault_number : OpenFault → ℕ
open_fault_number fault = (open_fault_wording fault).number

abbrev pub open_fault_text : OpenFault → List ℕ
open_fault_text fault = (open_fault_wording fault).text
