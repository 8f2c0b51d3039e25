use Rattle.std.proofs.Common.{string_bytes}
use Rattle.otel_waterfall.proofs.page.html_page.Goals as goal

pub returns : goal.returns
returns c = (string_bytes c.in_ok-text.text, c.in_ok-text.ensures, c.in_ok-push_html.ensures)
