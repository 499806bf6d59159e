-- How the values of a shelf and a sink in memory are stored: each as its fields.
use Rattle.std.specs.Prelude.{ℕ, List, Option, refl}
use Rattle.std.specs.Coded.{Coded, code_by, coded×, coded_ℕ, coded_list, coded_option}
use Rattle.std.specs.FinMap as map
use Rattle.shelf_io.specs.Shelf.{Files}
use Rattle.shelf_io.specs.MemState.{FailSchedule, MemFiles, MemBytes}

-- bytes, and names
abbrev pub coded_bytes : Coded (List ℕ)
coded_bytes = coded_list coded_ℕ

-- a schedule of failures
abbrev pub schedule_code : Coded FailSchedule
schedule_code = code_by (ℕ × List ℕ) (coded× coded_ℕ coded_bytes) (λ s. (s.calls, s.failing)) (λ p. record { calls = p.0; failing = p.1 }) (λ _. refl)

-- a shelf
abbrev pub shelf_code : Coded MemFiles
shelf_code =
    code_by (Files × (Option (List ℕ × List ℕ) × (Option (List ℕ) × (ℕ × (Option (List ℕ) × (FailSchedule × (ℕ × ℕ)))))))
    (coded× (map.code coded_bytes coded_bytes) (coded× (coded_option (coded× coded_bytes coded_bytes)) (coded× (coded_option coded_bytes) (coded× coded_ℕ (coded× (coded_option coded_bytes) (coded× schedule_code (coded× coded_ℕ coded_ℕ)))))))
    (λ s. (s.files, (s.opened, (s.making, (s.taken, (s.failed, (s.schedule, (s.read_faults, s.write_faults))))))))
    (λ p. record { files = p.0; opened = p.1.0; making = p.1.1.0; taken = p.1.1.1.0; failed = p.1.1.1.1.0; schedule = p.1.1.1.1.1.0; read_faults = p.1.1.1.1.1.1.0; write_faults = p.1.1.1.1.1.1.1 })
    (λ _. refl)

-- a sink
abbrev pub sink_code : Coded MemBytes
sink_code =
    code_by (List ℕ × (FailSchedule × ℕ)) (coded× coded_bytes (coded× schedule_code coded_ℕ))
    (λ s. (s.written, (s.schedule, s.faults))) (λ p. record { written = p.0; schedule = p.1.0; faults = p.1.1 }) (λ _. refl)
