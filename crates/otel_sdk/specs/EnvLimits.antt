-- The limits that the environment sets.
use Rattle.std.specs.Prelude.{◌≡◌, ℕ, Bool, false, List, [], ◌∷◌, ◌++◌, Option, Some, None, codes}
use Rattle.std.specs.Prelude.{refl}
use Rattle.std.specs.Prelude.{min, nat_le}
use Rattle.otel_sdk_base.specs.Queue.{Limits}
use Rattle.otel_sdk_span.specs.SpanLimits.{default_limits}
use Rattle.otel_sdk_span.specs.declared.limits.SpanLimits.{SpanLimits}
use Rattle.otel_sdk.specs.EnvTexts.{Variables, number, number_or, number_warnings, limit_or}
use Rattle.otel_sdk.specs.EnvTexts.{limit_warnings}
use Rattle.otel_sdk.specs.EnvTexts.{text_of, warned, warning}
use Rattle.otel_sdk.specs.declared.env.limits.EnvBatches.{EnvBatches}
use Rattle.otel_sdk_logs.specs.declared.limits.LogRecordLimits.{LogRecordLimits}
use Rattle.otel_sdk.specs.declared.env.limits.Names.{Names}
use Rattle.otel_sdk.specs.declared.env.warning.EnvWarning.{EnvWarning}
use Rattle.otel_sdk.specs.declared.env.warning.Instead.TheVariants.{Number}

-- ---- spans and log records

-- the limits of all attributes, which count where a span's or a record's own isn't set
abbrev pub general_count : Variables → ℕ
general_count vars = number_or (codes "OTEL_ATTRIBUTE_COUNT_LIMIT") 0 128 vars

abbrev pub general_length : Variables → Option ℕ
general_length vars = limit_or (codes "OTEL_ATTRIBUTE_VALUE_LENGTH_LIMIT") None vars

abbrev pub general_warnings : Variables → List EnvWarning
general_warnings vars =
    number_warnings (codes "OTEL_ATTRIBUTE_COUNT_LIMIT") 0 128 vars
    ++ limit_warnings (codes "OTEL_ATTRIBUTE_VALUE_LENGTH_LIMIT") None vars

-- the limits of spans
abbrev pub span_limits : Variables → SpanLimits
span_limits vars = record {
  max_events_per_span = number_or (codes "OTEL_SPAN_EVENT_COUNT_LIMIT") 0 128 vars;
  max_attributes_per_span =
      number_or (codes "OTEL_SPAN_ATTRIBUTE_COUNT_LIMIT") 0 (general_count vars) vars;
  max_links_per_span = number_or (codes "OTEL_SPAN_LINK_COUNT_LIMIT") 0 128 vars;
  max_attributes_per_event = number_or (codes "OTEL_EVENT_ATTRIBUTE_COUNT_LIMIT") 0 128 vars;
  max_attributes_per_link = number_or (codes "OTEL_LINK_ATTRIBUTE_COUNT_LIMIT") 0 128 vars;
  max_attribute_length =
      limit_or (codes "OTEL_SPAN_ATTRIBUTE_VALUE_LENGTH_LIMIT") (general_length vars) vars;
}

abbrev pub span_warnings : Variables → List EnvWarning
span_warnings vars =
    number_warnings (codes "OTEL_SPAN_EVENT_COUNT_LIMIT") 0 128 vars
    ++ number_warnings (codes "OTEL_SPAN_ATTRIBUTE_COUNT_LIMIT") 0 (general_count vars) vars
    ++ number_warnings (codes "OTEL_SPAN_LINK_COUNT_LIMIT") 0 128 vars
    ++ number_warnings (codes "OTEL_EVENT_ATTRIBUTE_COUNT_LIMIT") 0 128 vars
    ++ number_warnings (codes "OTEL_LINK_ATTRIBUTE_COUNT_LIMIT") 0 128 vars
    ++ limit_warnings (codes "OTEL_SPAN_ATTRIBUTE_VALUE_LENGTH_LIMIT") (general_length vars) vars

-- the limits of log records
abbrev pub log_limits : Variables → LogRecordLimits
log_limits vars = record {
  max_attributes_per_record =
      number_or (codes "OTEL_LOGRECORD_ATTRIBUTE_COUNT_LIMIT") 0 (general_count vars) vars;
  max_attribute_length = general_length vars;
}

abbrev pub log_warnings : Variables → List EnvWarning
log_warnings vars =
    number_warnings (codes "OTEL_LOGRECORD_ATTRIBUTE_COUNT_LIMIT") 0 (general_count vars) vars

-- ---- batches

-- the number, if it is at most the queue's
abbrev pub at_most : ℕ → Option ℕ → Bool
at_most queue None = false
at_most queue (Some n) = nat_le n queue

-- the size of a batch: 512 if none is given, and never more than the queue's
abbrev pub batch_size : List ℕ → ℕ → Variables → ℕ
batch_size name queue vars = min (number_or name 1 512 vars) queue

-- the warning about a batch that isn't a number, or is more than the queue
abbrev pub batch_warnings : List ℕ → ℕ → Variables → List EnvWarning
batch_warnings name queue vars = warned (at_most queue (number 1 (text_of name vars))) name
    (text_of name vars) (Number (batch_size name queue vars))

-- the names of the four variables of a processor
pub record BatchNames : Type 0 where
  pub queue : List ℕ
  pub batch : List ℕ
  pub delay : List ℕ
  pub timeout : List ℕ

-- the names that the code gives
abbrev pub names_of : Names → BatchNames
names_of n = record {
  queue = n.queue.now;
  batch = n.batch.now;
  delay = n.delay.now;
  timeout = n.timeout.now;
}

-- the limits of a processor whose delay is this one if none is given
abbrev pub batches : BatchNames → ℕ → Variables → EnvBatches
batches names delay vars =
    let queue = number_or names.queue 1 2048 vars in
    record {
      max_queue_size = queue;
      max_export_batch_size = batch_size names.batch queue vars;
      schedule_delay_millis = number_or names.delay 0 delay vars;
      export_timeout_millis = number_or names.timeout 0 30000 vars;
    }

abbrev pub batches_warnings : BatchNames → ℕ → Variables → List EnvWarning
batches_warnings names delay vars =
    number_warnings names.queue 1 2048 vars
    ++ batch_warnings names.batch (number_or names.queue 1 2048 vars) vars
    ++ number_warnings names.delay 0 delay vars
    ++ number_warnings names.timeout 0 30000 vars

-- the variables of spans, and of log records
abbrev pub span_names : BatchNames
span_names = record {
  queue = codes "OTEL_BSP_MAX_QUEUE_SIZE";
  batch = codes "OTEL_BSP_MAX_EXPORT_BATCH_SIZE";
  delay = codes "OTEL_BSP_SCHEDULE_DELAY";
  timeout = codes "OTEL_BSP_EXPORT_TIMEOUT";
}

abbrev pub log_names : BatchNames
log_names = record {
  queue = codes "OTEL_BLRP_MAX_QUEUE_SIZE";
  batch = codes "OTEL_BLRP_MAX_EXPORT_BATCH_SIZE";
  delay = codes "OTEL_BLRP_SCHEDULE_DELAY";
  timeout = codes "OTEL_BLRP_EXPORT_TIMEOUT";
}

-- the sizes as a processor takes them
abbrev pub sizes_of : EnvBatches → Limits
sizes_of b = record {
  max_queue_size = b.max_queue_size;
  max_export_batch_size = b.max_export_batch_size;
}

-- ---- worked rows
defaults_example : (span_limits [] ≡ default_limits) × (span_warnings [] ≡ [])
    × (batches span_names 5000 [] ≡ record {
      max_queue_size = 2048;
      max_export_batch_size = 512;
      schedule_delay_millis = 5000;
      export_timeout_millis = 30000;
    })
defaults_example = (refl, refl, refl)

abbrev small_queue : Variables
small_queue = (codes "OTEL_BSP_MAX_QUEUE_SIZE", codes "10") ∷ []

small_queue_example : (sizes_of (batches span_names 5000 small_queue)
    ≡ record { max_queue_size = 10; max_export_batch_size = 10 })
    × (batches_warnings span_names 5000 small_queue ≡ [])
small_queue_example = (refl, refl)

abbrev large_batch : Variables
large_batch = (codes "OTEL_BSP_MAX_EXPORT_BATCH_SIZE", codes "11") ∷ small_queue

large_batch_example : (sizes_of (batches span_names 5000 large_batch)
    ≡ record { max_queue_size = 10; max_export_batch_size = 10 })
    × (batches_warnings span_names 5000 large_batch
    ≡ warning (codes "OTEL_BSP_MAX_EXPORT_BATCH_SIZE") (codes "11") (Number 10) ∷ [])
large_batch_example = (refl, refl)

-- the attributes of a span under these texts of the general and the span's own limit
abbrev counted : List ℕ → List ℕ → ℕ
counted general own = (span_limits ((codes "OTEL_ATTRIBUTE_COUNT_LIMIT", general)
    ∷ (codes "OTEL_SPAN_ATTRIBUTE_COUNT_LIMIT", own) ∷ [])).max_attributes_per_span

own_example : (counted (codes "5") (codes "6") ≡ 6) × (counted (codes "5") [] ≡ 5)
    × (counted (codes "5") (codes "x") ≡ 5) × (counted [] (codes "0") ≡ 0)
    × (counted [] (codes "-1") ≡ 128) × (counted [] (codes "4294967296") ≡ 128)
    × (counted [] (codes " 7 ") ≡ 7)
own_example = (refl, refl, refl, refl, refl, refl, refl)
