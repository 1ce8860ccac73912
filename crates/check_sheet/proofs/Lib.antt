mod Sheets
mod Verdicts
