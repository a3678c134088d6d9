use Rattle.df_shell.proofs.document_page.report_prepared.Given as goal

-- the ledgers are the blanks
abbrev pub ghosts-open_and_report-Acc-Ledger : goal.ghosts-open_and_report-Acc-Ledger
ghosts-open_and_report-Acc-Ledger g a = record { name = a.accepted.name; parts = a.accepted.parts }

abbrev pub ghosts-open_and_report-Del-Ledger : goal.ghosts-open_and_report-Del-Ledger
ghosts-open_and_report-Del-Ledger g a = record { name = a.deleted.name; parts = a.deleted.parts }
